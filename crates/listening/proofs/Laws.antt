-- What is judged of a round's messages, in parts and in facts. Assumes nothing.
use Rattle.std.specs.Prelude.{Err, Ok}
use mathlib.Core.Path.{◌≡◌, refl, sym, ap, ◌∙◌}
use mathlib.Core.Bool.{Bool, true, false, cond, not, ◌||◌, or-false as or-false-is}
use mathlib.Core.List.{List}
use Prim.Native.Nat.{ℕ, ◌+◌, ◌-◌, ◌^◌, ◌≤◌}
use native.Mathlib.Omega.{arith}
use lib.Dec.{leb, ltb, eqb}
use lib.ListN.{drop}
use borrow.Author.Tests.{not-false, leb-true, ltb-false, le-leb, le-ltb}
use Rattle.refusal.specs.Judging.{then}
use Rattle.refusal.specs.declared.Refusal.TheVariants.{Inconsistent}
use Rattle.refusal.proofs.Judging.{refuses, passes, all_passed, passed, judged_append}
use Rattle.ranges.specs.Lists.{every}
use Rattle.ranges.proofs.Loops.{and-true}
use Rattle.record.specs.declared.Party.{Party}
use Rattle.record.specs.Record.{are_totals}
use Rattle.round.specs.declared.Heard.{Heard}
use Rattle.round.specs.declared.Heard.TheVariants.{Sum, Factors, Verdict, Total, Unopened}
use Rattle.round.specs.Round.{heard, unopened, sum_outside, verdict_outside}
use Rattle.level.proofs.Laws.{wide}
use Rattle.level_round.specs.Columns.{level_opened}
use Rattle.message.specs.Message.{in_level}
use Rattle.message.proofs.Sheets.{in_field_bytes}
use Rattle.message.proofs.Messages.{level_facts, level_wide, single_wide}
use Rattle.stepping.specs.After.{role}
use Rattle.listening.specs.Listen.{width_of, of_listening, listening_judgement, opening, total_outside, of_opening, opening_judgement, messages_judgement}

-- each party says at most 32 words
pub width_most : (q : Party) → width_of q ≤ 32
width_most q = split (in_level q) refl
  where
    split : (b : Bool) → in_level q ≡ b → width_of q ≤ 32
    split true e = let f = level_facts q e in let w = wide q.round f.1 f.2 in omega (arith, level_wide q e, w.twice, w.most)
    split false e = omega (arith, single_wide q e)

-- ---- what is judged before the words are opened, and then of what they open to

pub listened : (q : Party) (totals sheet messages present : List ℕ)
    → messages_judgement q totals sheet messages present
    ≡ then (listening_judgement q totals sheet messages present) (opening_judgement q.round q.demand q.supply (opening q present messages))
unfolding messages_judgement listening_judgement
listened q totals sheet messages present =
    judged_append (of_listening q totals sheet messages present) (of_opening q.round q.demand q.supply (opening q present messages))

-- where it goes on, the sheet has bytes
pub listened_bytes : (q : Party) (totals sheet messages present : List ℕ) → listening_judgement q totals sheet messages present ≡ Ok tt
    → every (λ w. ltb w 256) (drop 1 sheet) ≡ true
unfolding listening_judgement
listened_bytes q totals sheet messages present e =
    let enough = passed _ _ _ e in
    let field = passed _ _ _ enough.1 in
    in_field_bytes q _ totals sheet (not-false _ field.0)

module _ (q : Party) (messages present : List ℕ) where
  pub level_opening : in_level q ≡ true → opening q present messages ≡ cond (level_opened q.n q.round present messages) (Factors 0 0) Unopened
  unfolding opening
  level_opening e = rw e

  pub one_opening : in_level q ≡ false → opening q present messages ≡ heard q.n (role q) present messages
  unfolding opening
  one_opening e = rw e

-- a level that opens is accepted, and one that does not is 10
pub level_accepted : (round demand supply : ℕ) → opening_judgement round demand supply (Factors 0 0) ≡ Ok tt
level_accepted round demand supply = passes _ _ _ refl ∙ passes _ _ _ refl ∙ passes _ _ _ refl ∙ all_passed

pub level_refused : (round demand supply : ℕ) → opening_judgement round demand supply Unopened ≡ Err Inconsistent
level_refused round demand supply = refuses _ _ _ refl

-- ---- what the messages of an accepted round open to

-- what the messages of an accepted round open to, where the record has such totals
abbrev pub Admitted : (round demand supply : ℕ) → Heard → Type 0
Admitted round demand supply (Sum v) = (2 ^ 58 + 2 ≤ v) × (v ≤ 2 ^ 59 + 2 ^ 33 - 1)
Admitted round demand supply (Factors d e) = Unit {0}
Admitted round demand supply (Verdict v) = v ≤ 1
Admitted round demand supply (Total v) = are_totals (cond (eqb round 34) v demand) (cond (eqb round 34) supply v) ≡ true
Admitted round demand supply Unopened = ⊥

module _ (round demand supply : ℕ) where
  -- T or a total outside of its range
  abbrev pub wild : Heard → Bool
  wild h = sum_outside h || total_outside round demand supply h

  pub admitted : (h : Heard) → unopened h ≡ false → wild h ≡ false → verdict_outside h ≡ false → Admitted round demand supply h
  admitted (Sum v) c w s =
      let range = and-true (leb (2 ^ 58 + 2) v) (leb v (2 ^ 59 + 2 ^ 33 - 1)) (not-false _ (sym (or-false-is _) ∙ w)) in
      (leb-true _ v range.0, leb-true v _ range.1)
  admitted (Factors d e) c w s = tt
  admitted (Verdict v) c w s = ltb-false 1 v s
  admitted (Total v) c w s = not-false _ w
  admitted Unopened c w s = let z : ◌≡◌ {A = ℕ} 0 1 = cc in absurd (omega arith)

  pub admitted_tests : (h : Heard) → Admitted round demand supply h → (unopened h ≡ false) × (wild h ≡ false) × (verdict_outside h ≡ false)
  admitted_tests (Sum v) h = (refl, rw (le-leb (2 ^ 58 + 2) v h.0, le-leb v (2 ^ 59 + 2 ^ 33 - 1) h.1), refl)
  admitted_tests (Factors d e) h = (refl, refl, refl)
  admitted_tests (Verdict v) h = (refl, refl, le-ltb 1 v h)
  admitted_tests (Total v) h = (refl, ap not h, refl)
  admitted_tests Unopened h = absurd h
