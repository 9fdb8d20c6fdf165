-- Laws of dealing, which other crates cite, and lemmas that its proofs share.
pub mod Laws
