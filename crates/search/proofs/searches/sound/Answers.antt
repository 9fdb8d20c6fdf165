-- `sound` meets its contract: each return says what the two halves of the definition say there. Assumes nothing.
use mathlib.Core.Path.{◌≡◌, refl, sym, ap, ap₂, ◌∙◌}
use mathlib.Core.Bool.{Bool, true, false, not, ◌&&◌, true≢false}
use Prim.Native.Nat.{ℕ, ◌-◌, ◌≤◌, ◌<◌}
use native.Mathlib.Omega.{arith}
use lib.Dec.{leb, eqb}
use borrow.Author.Tests.{eqb-true, leb-true, le-leb, eq-eqb, ne_eqb, not-true, not-false}
use Rattle.ranges.proofs.Loops.{and-true}
use Rattle.search.specs.declared.searches.Search.{Search}
use Rattle.search.specs.Bracket.{over}
use Rattle.search.specs.Limit.{limit}
use Rattle.search.specs.Searches.{side, bounded, sound}
use Rattle.search.proofs.Bounds.{Sound, in_first, in_second, bounded_facts, bounded_of, sound_facts, sound_of}
use Rattle.search.proofs.searches.sound.Goals as goal
use Rattle.search.proofs.searches.sound.Goals.{After-bounded}

never : (t : Bool) → (t ≡ true → ⊥) → false ≡ t
never true h = absurd (h refl)
never false h = refl

either_way : (a b : Bool) → (a ≡ true → b ≡ true) → (b ≡ true → a ≡ true) → a ≡ b
either_way true b f g = sym (f refl)
either_way false b f g = never b (λ e. true≢false (sym (g e)))

module _ (k : ℕ) (s : Search) where
  first_last : s.which ≡ 1 → side s.which k s.first ≡ k
  unfolding side
  first_last e = rw (ne_eqb s.which 2 (λ f. omega arith))

  second_last : s.which ≡ 2 → side s.which k s.first ≡ s.first
  unfolding side
  second_last e = rw (eq-eqb s.which 2 e)

  -- more probes spent than done
  overspent : s.probes < s.spent → false ≡ sound k s
  overspent lt = never (sound k s) (λ e. split (sound_facts k s e))
    where
      split : Sound k s → ⊥
      split (in_first h) = omega (arith, h.not_spent)
      split (in_second h) = omega (arith, h.counted)

  -- the search that is on is out of its bounds, or within them
  within : Sound k s → bounded (side s.which k s.first) (s.probes - s.spent) s.bracket ≡ true
  within (in_first h) =
      let own : s.probes - s.spent ≡ s.probes = omega (arith, h.not_spent) in
      rw (first_last h.on, own) (bounded_of k s.probes s.bracket h.bounds)
  within (in_second h) = rw (second_last h.on) (bounded_of s.first (s.probes - s.spent) s.bracket h.bounds)

  unbounded : bounded (side s.which k s.first) (s.probes - s.spent) s.bracket ≡ false → false ≡ sound k s
  unbounded out = never (sound k s) (λ e. true≢false (sym (within (sound_facts k s e)) ∙ out))

  module _ (counted : s.spent ≤ s.probes) (inside : bounded (side s.which k s.first) (s.probes - s.spent) s.bracket ≡ true) where
    second_is : s.which ≡ 2 → leb s.first k && leb s.spent (limit k) ≡ sound k s
    second_is on = either_way _ (sound k s) only (λ e. back (sound_facts k s e))
      where
        only : leb s.first k && leb s.spent (limit k) ≡ true → sound k s ≡ true
        only e =
            let both = and-true _ _ e in
            sound_of k s
            (in_second
            (record {
              on = on;
              within = leb-true _ _ both.0;
              spent_few = leb-true _ _ both.1;
              counted = counted;
              bounds = bounded_facts s.first (s.probes - s.spent) s.bracket (rw (second_last on) at inside);
            }))

        back : Sound k s → leb s.first k && leb s.spent (limit k) ≡ true
        back (in_first h) = absurd (omega (arith, h.on))
        back (in_second h) = ap₂ ◌&&◌ (le-leb s.first k h.within) (le-leb s.spent (limit k) h.spent_few)

    first_is : (s.which ≡ 2 → ⊥) → eqb s.which 1 && not (over s.bracket) && eqb s.first 0 && eqb s.spent 0 ≡ sound k s
    first_is off = either_way _ (sound k s) only (λ e. back (sound_facts k s e))
      where
        only : eqb s.which 1 && not (over s.bracket) && eqb s.first 0 && eqb s.spent 0 ≡ true → sound k s ≡ true
        only e =
            let x = and-true _ _ e in
            let y = and-true _ _ x.0 in
            let z = and-true _ _ y.0 in
            let on = eqb-true s.which 1 z.0 in
            let none = eqb-true s.spent 0 x.1 in
            let own : s.probes - s.spent ≡ s.probes = omega arith in
            sound_of k s
            (in_first
            (record {
              on = on;
              none = eqb-true s.first 0 y.1;
              not_spent = none;
              going = not-true _ z.1;
              bounds = bounded_facts k s.probes s.bracket (rw (first_last on, own) at inside);
            }))

        back : Sound k s → eqb s.which 1 && not (over s.bracket) && eqb s.first 0 && eqb s.spent 0 ≡ true
        back (in_first h) = rw (eq-eqb s.which 1 h.on, h.going, eq-eqb s.first 0 h.none, eq-eqb s.spent 0 h.not_spent)
        back (in_second h) = absurd (off h.on)

-- where the bounds were looked at
module _ (c : After-bounded) where
  looked : c.bounded.result
      ≡ bounded (side c.args.s.which c.args.k c.args.s.first) (c.args.s.probes - c.args.s.spent) c.args.s.bracket
  looked =
      c.bounded.ensures
      ∙ ap (λ (x : ℕ). bounded x (c.args.s.probes - c.args.s.spent) c.args.s.bracket) c.last.ensures

  counted_so : c.args.s.spent ≤ c.args.s.probes
  counted_so = omega (arith, c.if-s.false)

pub returns-then-s : goal.returns-then-s
returns-then-s c = overspent _ _ c.if-s.true

pub returns-then-not-bounded : goal.returns-then-not-bounded
returns-then-not-bounded c =
    unbounded _ _ (sym (looked (goal.at.returns-then-not-bounded c).After-bounded) ∙ not-true _ c.if-not-bounded.true-raw)

pub returns-then-s-eq2 : goal.returns-then-s-eq2
returns-then-s-eq2 c =
    let a = c.args in
    ap (λ (m : ℕ). leb a.s.first a.k && leb a.s.spent m) c.limit.ensures
    ∙ second_is a.k a.s (counted_so (goal.at.returns-then-s-eq2 c).After-bounded) (sym (looked (goal.at.returns-then-s-eq2 c).After-bounded) ∙ not-false _ c.if-not-bounded.false-raw) c.if-s-eq2.true

pub returns : goal.returns
returns c =
    let a = c.args in
    ap (λ (t : Bool). eqb a.s.which 1 && not t && eqb a.s.first 0 && eqb a.s.spent 0) c.over.ensures
    ∙ first_is a.k a.s (counted_so (goal.at.returns c).After-bounded) (sym (looked (goal.at.returns c).After-bounded) ∙ not-false _ c.if-not-bounded.false-raw) c.if-s-eq2.false
