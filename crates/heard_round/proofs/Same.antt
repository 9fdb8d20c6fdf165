-- What is said of a record that was read is said of its words. Assumes nothing.
use mathlib.Core.Path.{◌≡◌, ap}
use mathlib.Core.Bool.{Bool}
use mathlib.Core.List.{List}
use Rattle.refusal.specs.Judging.{kept}
use Prim.Native.Nat.{ℕ}
use Rattle.presence.specs.Presence.{all_or}
use Rattle.record.specs.declared.Party.{Party}
use Rattle.record_words.specs.Words.{words_of}
use Rattle.listening.specs.Listen.{opened_judgement}
use Rattle.heard_round.specs.Next.{heard_next}

module _ (p q : Party) (same : p ≡ q) (all : Bool) (sheet messages marks words : List ℕ) where
  -- whoever was present
  abbrev pub by_all : Party → List ℕ
  by_all x = all_or all x.n marks

  pub judged_same : opened_judgement p (by_all p) messages ≡ opened_judgement q (by_all q) messages
  judged_same = ap (λ (x : Party). opened_judgement x (by_all x) messages) same

  pub left_same : kept (opened_judgement p (by_all p) messages) (words_of (heard_next p sheet messages (by_all p))) words
      ≡ kept (opened_judgement q (by_all q) messages) (words_of (heard_next q sheet messages (by_all q))) words
  left_same = ap (λ (x : Party). kept (opened_judgement x (by_all x) messages) (words_of (heard_next x sheet messages (by_all x))) words) same
