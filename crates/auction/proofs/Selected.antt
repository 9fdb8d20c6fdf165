-- The calls of a list that pass a test, with one call more. Assumes nothing.
use mathlib.Core.Path.{◌≡◌, refl}
use mathlib.Core.Bool.{Bool, false, cond}
use mathlib.Core.List.{List, ◌∷◌, ◌++◌}
use Rattle.auction.specs.Call.{Call, given}
use Rattle.auction.specs.Run.{select}
use Rattle.auction.proofs.Calls.{select_append}

-- one call more, if it passes
abbrev pub with_call : Bool → Call → List Call → List Call
with_call b c cs = cond b (given c ∷ cs) cs

module _ (test : Call → Bool) where
  pub select_cons : (c : Call) (l : List Call) → select test (c ∷ l) ≡ with_call (test c) c (select test l)
  unfolding select
  select_cons c l = refl

  -- a call that fails may be left out
  pub select_skip : (c : Call) → test c ≡ false → (l m : List Call) → select test (l ++ m) ≡ select test (l ++ (c ∷ m))
  select_skip c e l m = simp (select_append, select_cons, e)
