-- The judgement of a fill, in facts: the call is accepted exactly where they hold. Assumes nothing.
use Rattle.std.specs.Prelude.{Err, Ok}
use mathlib.Core.Path.{◌≡◌, refl, ap}
use mathlib.Core.Bool.{Bool, true, false, not, ◌&&◌}
use Prim.Native.Nat.{ℕ, ◌≤◌}
use native.Mathlib.Omega.{arith}
use lib.Dec.{eqb}
use borrow.Author.Tests.{ltb-false, eqb-true, not-false, le-ltb, eq-eqb, ne_eqb}
use Rattle.ranges.proofs.Loops.{and_right, and_false}
use Rattle.refusal.specs.Judging.{judged}
use Rattle.refusal.specs.declared.Refusal.TheVariants.{NotCleared}
use Rattle.refusal.proofs.Judging.{passed}
use Rattle.search.specs.Searches.{clears}
use Rattle.bid.specs.Table.{most}
use Rattle.record.specs.declared.Party.{Party}
use Rattle.record.proofs.Soundness.{Sound, sound_facts, sound_of, last_most}
use Rattle.filling.specs.Fill.{fill_judgement}

-- a sound record is in round 36 only where the searches ended at a price
pub open_clears : (q : Party) → Sound q → q.round ≡ 36 → clears q.search ≡ true
open_clears q h e = split (clears q.search) refl
  where
    split : (t : Bool) → clears q.search ≡ t → t ≡ true
    split true c = refl
    split false c = absurd (omega (arith, h.round.probing c, last_most q.last h.way))

-- so that the round alone tells whether the totals are open
module _ (q : Party) where
  pub opened : Sound q → q.round ≡ 36 → not (clears q.search && eqb q.round 36) ≡ false
  opened h e = rw (open_clears q h e, eq-eqb q.round 36 e)

  pub unopened : (q.round ≡ 36 → ⊥) → not (clears q.search && eqb q.round 36) ≡ true
  unopened other = ap not (and_false (clears q.search) (eqb q.round 36) (ne_eqb q.round 36 other))

pub record Fills (q : Party) (amount : ℕ) : Type 0 where
  pub sound : Sound q
  -- the totals are open; so the searches ended at a price (`open_clears`)
  pub last_round : q.round ≡ 36
  pub small : amount ≤ most

module _ (q : Party) (amount : ℕ) where
  pub fills : fill_judgement q amount ≡ Ok tt → Fills q amount
  unfolding fill_judgement
  fills e =
      let whole = passed _ _ _ e in
      let turn = passed _ _ _ whole.1 in
      let size = passed _ _ _ turn.1 in
      record {
        sound = sound_facts q (not-false _ whole.0);
        last_round = eqb-true _ _ (and_right (clears q.search) _ (not-false _ turn.0));
        small = ltb-false most amount size.0;
      }

  pub fill_accepted : Fills q amount → fill_judgement q amount ≡ Ok tt
  unfolding fill_judgement judged
  fill_accepted h = rw (sound_of q h.sound, opened q h.sound h.last_round, le-ltb most amount h.small)

  -- before the totals are open, and where there is no price
  pub not_cleared : Sound q → (q.round ≡ 36 → ⊥) → fill_judgement q amount ≡ Err NotCleared
  unfolding fill_judgement judged
  not_cleared h other = rw (sound_of q h, unopened q other)
