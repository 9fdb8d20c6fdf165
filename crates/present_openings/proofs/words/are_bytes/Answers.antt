-- `are_bytes` meets its contract: of the words so far, those of who was present are bytes. Assumes nothing.
use mathlib.Core.Path.{◌≡◌, refl, sym, ap, ap₂, ◌∙◌}
use mathlib.Core.Bool.{Bool, true, false, not, ◌&&◌, ◌||◌}
use mathlib.Core.List.{List, [], ◌∷◌}
use mathlib.Core.Logic.{◌⊎◌, inl, inr}
use Prim.Native.Nat.{ℕ}
use lib.Dec.{ltb, eqb}
use Rattle.std.proofs.lemmas.Slice.Zip.{either_empty_from_Zip}
use Rattle.ranges.specs.Lists.{every}
use Rattle.ranges.proofs.Loops.{and_one, and_assoc}
use Rattle.presence.specs.Presence.{marked, choose}
use Rattle.present_openings.proofs.words.are_bytes.Invariants.{bytes}
use Rattle.present_openings.proofs.words.are_bytes.Goals as goal

-- one place more
next : (all : Bool) (p w : ℕ) (ps ws : List ℕ) → (all && bytes (p ∷ ps) (w ∷ ws)) ≡ ((all && (not (eqb 1 p) || ltb w 256)) && bytes ps ws)
unfolding every
next all p w ps ws = go (eqb 1 p)
  where
    go : (b : Bool)
        → (all && every (λ w. ltb w 256) (choose (b ∷ marked ps) (w ∷ ws)))
        ≡ ((all && (not b || ltb w 256)) && bytes ps ws)
    go true = and_assoc all (ltb w 256) (bytes ps ws)
    go false = ap (λ (b : Bool). b && bytes ps ws) (sym (and_one all))

-- no place more
nobody : (bs : List Bool) → choose {A = ℕ} bs [] ≡ []
nobody [] = refl
nobody (b ∷ bs) = refl

ended : (ps ws : List ℕ) → (ps ≡ []) ⊎ (ws ≡ []) → bytes ps ws ≡ true
unfolding every
ended ps ws (inl e) = ap (λ (k : List ℕ). bytes k ws) e
ended ps ws (inr e) = ap (bytes ps) e ∙ ap (every (λ w. ltb w 256)) (nobody (marked ps))

pub loop-mark-preserved : goal.loop-mark-preserved
loop-mark-preserved c =
    let l = c.loop-mark in
    l.invariant ∙ ap₂ (λ (ps ws : List ℕ). l.all && bytes ps ws) c.in-Some.ensures.steps.0 c.in-Some.ensures.steps.1
    ∙ next l.all c.in-Some.mark.now c.in-Some.word.now _ _

pub returns : goal.returns
returns c =
    let l = c.loop-mark in
    sym (l.invariant ∙ ap (λ (b : Bool). l.all && b) (ended _ _ (either_empty_from_Zip l.mark-iterator c.next.new.self _ c.in-None.is c.next.ensures.steps)) ∙ and_one l.all)
