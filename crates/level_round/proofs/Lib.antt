-- Laws of what a level's messages open to.
pub mod Laws
mod Words
