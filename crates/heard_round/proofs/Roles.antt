-- What a round is judged as. Assumes nothing.
use mathlib.Core.Path.{◌≡◌, refl}
use mathlib.Core.Bool.{Bool, true, false, cond}
use mathlib.Core.Logic.{◌⊎◌, inl, inr}
use Prim.Native.Nat.{◌≤◌, ◌<◌}
use native.Mathlib.Omega.{arith}
use lib.Dec.{eqb}
use borrow.Author.Tests.{eqb-true, eqb-false}
use Rattle.search.specs.Searches.{clears}
use Rattle.record.specs.declared.Party.{Party}
use Rattle.record.proofs.Soundness.{Sound, last_most}
use Rattle.stepping.specs.After.{role}

pub role_split : (q : Party) → ((q.round ≡ q.last) × (role q ≡ 33)) ⊎ ((q.round ≡ q.last → ⊥) × (role q ≡ q.round))
role_split q = split (eqb q.round q.last) refl
  where
    split : (b : Bool) → eqb q.round q.last ≡ b → ((q.round ≡ q.last) × (cond b 33 q.round ≡ 33)) ⊎ ((q.round ≡ q.last → ⊥) × (cond b 33 q.round ≡ q.round))
    split true e = inl (eqb-true q.round q.last e, refl)
    split false e = inr (eqb-false q.round q.last e, refl)

pub role_is : (q : Party) → role q ≤ 32 → role q ≡ q.round
role_is q h = elim (role_split q) [ inl a ↦ absurd (omega (arith, a.1)) | inr a ↦ a.1 ]

pub role_other : (q : Party) → role q ≤ 32 → q.round ≡ q.last → ⊥
role_other q h e = elim (role_split q) [ inl a ↦ omega (arith, a.1) | inr a ↦ a.0 e ]

pub role_least : (q : Party) → 1 ≤ q.round → 1 ≤ role q
role_least q h = elim (role_split q) [ inl a ↦ omega (arith, a.1) | inr a ↦ omega (arith, a.1) ]

pub last_on : (q : Party) → Sound q → role q ≡ 33 → q.round ≤ 33
last_on q s e = elim (role_split q) [ inl a ↦ omega (arith, a.0, last_most q.last s.way) | inr a ↦ omega (arith, a.1) ]

pub late_on : (q : Party) → 33 < role q → 33 < q.round
late_on q h = elim (role_split q) [ inl a ↦ absurd (omega (arith, a.1)) | inr a ↦ omega (arith, a.1) ]

-- only the last round of a probe is judged as round 33
pub role_last : (q : Party) → Sound q → role q ≡ 33 → q.round ≡ q.last
role_last q s e = elim (role_split q) [ inl a ↦ a.0 | inr a ↦ absurd (apart (clears q.search) refl a.0 a.1) ]
  where
    apart : (t : Bool) → clears q.search ≡ t → (q.round ≡ q.last → ⊥) → role q ≡ q.round → ⊥
    apart true c n r = omega (arith, (s.round.opening c).0, r, e)
    apart false c n r = n (omega (arith, s.round.probing c, r, e, last_most q.last s.way))

pub role_late : (q : Party) → 33 < role q → q.round ≡ q.last → ⊥
role_late q h e = elim (role_split q) [ inl a ↦ omega (arith, a.1) | inr a ↦ a.0 e ]
