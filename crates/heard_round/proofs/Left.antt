-- What a heard round leaves of the record: the roll, and as many pair shares as there were. Assumes nothing.
use mathlib.Core.Path.{◌≡◌, refl}
use mathlib.Core.Bool.{true, false, cond, true≢false}
use mathlib.Core.List.{List}
use Prim.Native.Nat.{ℕ}
use native.Mathlib.Omega.{arith}
use lib.Dec.{eqb}
use lib.ListN.{length, length-replicate}
use borrow.Author.Tests.{eq-eqb, ne_eqb}
use Rattle.kept_pairs.specs.Pairs.{none}
use Rattle.record.specs.declared.Party.{Party}
use Rattle.record.specs.Updates.{in_round, decided, totalled}
use Rattle.record.proofs.Soundness.{Sound}
use Rattle.round.specs.declared.Heard.{Heard}
use Rattle.round.specs.declared.Heard.TheVariants.{Sum, Factors, Verdict, Total, Unopened}
use Rattle.round.specs.Round.{heard, unopened, Possible}
use Rattle.level.specs.Level.{level_kept}
use Rattle.level_round.specs.Columns.{level_sides}
use Rattle.message.specs.Message.{in_level}
use Rattle.stepping.specs.After.{role, after, after_level}
use Rattle.heard_round.specs.Next.{heard_next}
use Rattle.heard_round.proofs.Roles.{role_other, role_last, role_late}

-- what a round of single words leaves as it was
pub after_roll : (q : Party) (sheet : List ℕ) (h : Heard) → (after q sheet h).roll ≡ q.roll
unfolding after in_round decided totalled
after_roll q sheet (Sum v) = refl
after_roll q sheet (Factors d e) = refl
after_roll q sheet (Verdict v) = refl
after_roll q sheet (Total v) = refl
after_roll q sheet Unopened = refl

pub after_pairs : (q : Party) (sheet : List ℕ) (h : Heard) → Sound q → Possible (role q) h → unopened h ≡ false
    → (after q sheet h).pairs ≡ cond (eqb q.round q.last) none q.pairs
unfolding after in_round decided totalled
after_pairs q sheet (Sum v) s p o = rw (ne_eqb q.round q.last (role_other q (omega (arith, p))))
after_pairs q sheet (Factors d e) s p o = rw (ne_eqb q.round q.last (role_other q p.1))
after_pairs q sheet (Verdict v) s p o = rw (eq-eqb q.round q.last (role_last q s p))
after_pairs q sheet (Total v) s p o = rw (ne_eqb q.round q.last (role_late q p))
after_pairs q sheet Unopened s p o = absurd (true≢false o)

pub after_many : (q : Party) (sheet : List ℕ) (h : Heard) → length q.pairs.words ≡ 32 → length (after q sheet h).pairs.words ≡ 32
unfolding after in_round decided totalled none
after_many q sheet (Sum v) e = e
after_many q sheet (Factors d f) e = e
after_many q sheet (Verdict v) e = length-replicate {A = ℕ} 32 0
after_many q sheet (Total v) e = e
after_many q sheet Unopened e = e

-- of any round
pub level_roll : (q : Party) (kept : List ℕ) → (after_level q kept).roll ≡ q.roll
unfolding after_level in_round
level_roll q kept = refl

pub level_pairs : (q : Party) (kept : List ℕ) → (after_level q kept).pairs.words ≡ kept
unfolding after_level in_round
level_pairs q kept = refl

-- ---- the next record, by the round

module _ (q : Party) (sheet messages present : List ℕ) where
  pub level_next : in_level q ≡ true
      → heard_next q sheet messages present ≡ after_level q (level_kept q.round q.sum q.pairs.words sheet (level_sides q.n q.round present messages))
  unfolding heard_next
  level_next e = rw e

  pub one_next : in_level q ≡ false → heard_next q sheet messages present ≡ after q sheet (heard q.n (role q) present messages)
  unfolding heard_next
  one_next e = rw e
