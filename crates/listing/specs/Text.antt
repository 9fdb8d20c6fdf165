-- Text as bytes: what a buffer holds once text is put into it. Assumes nothing.
use Rattle.std.specs.Prelude.{◌≡◌, List, ◌++◌, ℕ, ◌+◌, ◌≤◌, length, take, drop}

-- a buffer with text put at a place; all else is as before
abbrev pub put : (at : ℕ) (text out : List ℕ) → List ℕ
put at text out = take at out ++ text ++ drop (at + length text) out

-- what writing text at a place leaves, and the next place
pub record Wrote (before : List ℕ) (at : ℕ) (text after : List ℕ) (next : ℕ) : Type 0 where
  pub held : after ≡ put at text before
  pub place : next ≡ at + length text
  pub inside : next ≤ length before
