-- `read_lines` meets its contract: the pairs before `pair` are read, from the bytes before `at`. Assumes nothing.
use Rattle.std.specs.Prelude.{None, Some}
use mathlib.Core.Path.{◌≡◌, refl, sym, ap, ap₂, ◌∙◌}
use mathlib.Core.Bool.{Bool, true, false, cond, ◌&&◌}
use mathlib.Core.List.{List, [], ◌∷◌, ◌++◌, append_assoc, append-nil}
use Prim.Native.Nat.{ℕ, suc, ◌+◌, ◌-◌, ◌*◌, ◌≤◌, ◌<◌}
use native.Mathlib.Numerals.{add-one}
use native.Mathlib.Omega.{arith}
use lib.ListN.{length, take, drop, set, length-drop, length-set}
use lib.Seq.{take_all, drop-drop, take-suc-set}
use Rattle.ranges.specs.Sizes.{highest_price}
use Rattle.settlement_page.specs.declared.line.PairRead.{PairRead}
use Rattle.settlement_page.specs.Line.{wanted_on, got_on, begins, fits, shown_at, pair_read}
use Rattle.settlement.specs.Read.{shown, laid_out}
use Rattle.settlement_page.proofs.Fits.{taken, taken_inside}
use Rattle.settlement.proofs.Back.{shown_more, shown_end, laid, laid_step, laid_end}
use Rattle.settlement.proofs.reading.read_lines.Goals as goal
use Rattle.settlement.proofs.reading.read_lines.Goals.{After-read_pair}

-- one pair more, of the rest of the page
module _ (price : ℕ) (page into : List ℕ) (at pair : ℕ) (p : price ≤ highest_price) (real : pair < 2000) (inside : at ≤ length page)
    (long : length into ≡ 4000) where
  abbrev rest : List ℕ
  rest = drop at page

  -- the part that is lent
  lent : take (length page - at) rest ≡ rest
  lent = take_all (length page - at) rest (omega (arith, length-drop at page))

  abbrev left : ℕ
  left = 2000 - (pair + 1)

  more : 2000 - pair ≡ suc left
  more = omega arith

  laid_more : laid price (2000 - pair) pair rest ≡ fits price pair rest && laid price left (pair + 1) (drop (at + taken pair rest) page)
  laid_more =
      ap (λ (m : ℕ). laid price m pair rest) more
      ∙ laid_step price left pair rest p (omega arith)
      ∙ ap₂ (λ (q : ℕ) (l : List ℕ). fits price pair rest && laid price left q l) (sym (add-one pair)) (drop-drop (taken pair rest) at page)

  next_inside : fits price pair rest ≡ true → at + taken pair rest ≤ length page
  next_inside f = omega (arith, taken_inside price pair rest p f, length-drop at page)

  module _ (wanted got : ℕ) (w : wanted ≡ cond (begins pair rest) (wanted_on rest) 0) (g : got ≡ cond (begins pair rest) (got_on rest) 0) where
    abbrev after : List ℕ
    after = set (set into (2 * pair) wanted) (2 * pair + 1) got

    length_after : length after ≡ 4000
    length_after = length-set (set into (2 * pair) wanted) (2 * pair + 1) got ∙ length-set into (2 * pair) wanted ∙ long

    front : take (2 * (pair + 1)) after ≡ take (2 * pair) into ++ (wanted ∷ got ∷ [])
    front =
        let two : 2 * (pair + 1) ≡ suc (2 * pair + 1) = omega arith in
        ap (λ (m : ℕ). take m after) two
        ∙ take-suc-set (set into (2 * pair) wanted) (2 * pair + 1) got (omega (arith, length-set into (2 * pair) wanted))
        ∙ ap (λ (m : ℕ). take m (set into (2 * pair) wanted) ++ (got ∷ [])) (add-one (2 * pair))
        ∙ ap (λ (l : List ℕ). l ++ (got ∷ [])) (take-suc-set into (2 * pair) wanted (omega arith))
        ∙ append_assoc (take (2 * pair) into) (wanted ∷ []) (got ∷ [])

    shown_next : (entries : List ℕ) → entries ≡ take (2 * pair) into ++ shown (2000 - pair) pair rest
        → entries ≡ take (2 * (pair + 1)) after ++ shown left (pair + 1) (drop (at + taken pair rest) page)
    shown_next entries e =
        e
        ∙ ap (λ (m : ℕ). take (2 * pair) into ++ shown m pair rest) more
        ∙ ap (λ (l : List ℕ). take (2 * pair) into ++ l)
        (shown_more left pair rest
        ∙ ap₂ (λ (a b : ℕ). a ∷ b ∷ shown left (suc pair) (drop (taken pair rest) rest)) (sym w) (sym g)
        ∙ ap₂ (λ (q : ℕ) (l : List ℕ). wanted ∷ got ∷ shown left q l) (sym (add-one pair)) (drop-drop (taken pair rest) at page))
        ∙ sym (append_assoc (take (2 * pair) into) (wanted ∷ got ∷ []) _)
        ∙ ap (λ (l : List ℕ). l ++ shown left (pair + 1) (drop (at + taken pair rest) page)) (sym front)

-- what is read of a pair, told of the rest of the page
module _ (c : After-read_pair) where
  abbrev page : List ℕ
  page = c.args.page.now

  abbrev pair : ℕ
  pair = c.loop-pair.pair

  abbrev at : ℕ
  at = c.loop-pair.at

  long : length c.loop-pair.shown ≡ 4000
  long = c.loop-pair.auto.shown ∙ c.requires.1

  told : c.read_pair.result ≡ pair_read c.args.price pair (drop at page)
  told = rw (lent c.args.price page c.loop-pair.shown at pair c.requires.0 c.loop-pair-test.true c.loop-pair.invariant.0 long) at c.read_pair.ensures

  abbrev further : Bool → Bool
  further t = t && laid c.args.price (2000 - (pair + 1)) (pair + 1) (drop (at + taken pair (drop at page)) page)

  laid_here : laid_out c.args.price page ≡ further (fits c.args.price pair (drop at page))
  laid_here =
      c.loop-pair.invariant.1
      ∙ laid_more c.args.price page c.loop-pair.shown at pair c.requires.0 c.loop-pair-test.true c.loop-pair.invariant.0 long

-- what `read_pair` was given, by what it answers
module _ (price pair : ℕ) (page : List ℕ) where
  some : (t : Bool) (s r : PairRead) → cond t (Some s) None ≡ Some r → (t ≡ true) × (s ≡ r)
  some true s r e = (refl, cc)
  some false s r e = (cc, cc)

  none : (t : Bool) (s : PairRead) → cond t (Some s) None ≡ None → t ≡ false
  none true s e = cc
  none false s e = refl

  fit : (r : PairRead) → pair_read price pair page ≡ Some r → (fits price pair page ≡ true) × (shown_at pair page ≡ r)
  fit r e = some (fits price pair page) (shown_at pair page) r e

  unfit : pair_read price pair page ≡ None → fits price pair page ≡ false
  unfit e = none (fits price pair page) (shown_at pair page) e

pub loop-pair-init : goal.loop-pair-init
unfolding laid_out laid
loop-pair-init c = (omega arith, refl, refl)

pub read_pair-requires : goal.read_pair-requires
read_pair-requires c = (c.requires.0, c.loop-pair-test.true)

pub returns-in_default : goal.returns-in_default
returns-in_default c =
    let s = (goal.at.returns-in_default c).After-read_pair in (
      sym (laid_here s ∙ ap (further s) (unfit _ _ _ (sym (told s) ∙ c.in_default.is))),
      λ z. let w : ◌≡◌ {A = ℕ} 0 1 = cc in absurd (omega arith),
    )

-- where the next pair is
next_is : (s : After-read_pair) (r : PairRead) → shown_at (pair s) (drop (at s) (page s)) ≡ r → at s + r.bytes ≡ at s + taken (pair s) (drop (at s) (page s))
next_is s r e = ap (λ (r : PairRead). at s + r.bytes) (sym e)

next_fits : (s : After-read_pair) (r : PairRead) → fits s.args.price (pair s) (drop (at s) (page s)) ≡ true → shown_at (pair s) (drop (at s) (page s)) ≡ r
    → at s + r.bytes ≤ length (page s)
next_fits s r f e =
    omega (
      arith,
      next_is s r e,
      next_inside s.args.price (page s) s.loop-pair.shown (at s) (pair s) s.requires.0 s.loop-pair-test.true s.loop-pair.invariant.0 (long s) f,
    )

pub overflow_add-at : goal.overflow_add-at
overflow_add-at c =
    let s = (goal.at.overflow_add-at c).After-read_pair in
    let r = fit _ _ _ _ (sym (told s) ∙ c.in-Some.is) in
    record { fits = omega (arith, next_fits s _ r.0 r.1, c.well_formed) }

pub loop-pair-preserved : goal.loop-pair-preserved
loop-pair-preserved c =
    let s = (goal.at.loop-pair-preserved c).After-read_pair in
    let l = c.loop-pair in
    let price = c.args.price in
    let i = l.pair in
    let bytes = c.args.page.now in
    let read = c.in-Some.read in
    let r = fit _ _ _ _ (sym (told s) ∙ c.in-Some.is) in
    let next = sym (next_is s read r.1) in (
      next_fits s read r.0 r.1,
      laid_here s ∙ ap₂ (λ (t : Bool) (m : ℕ). t && laid price (2000 - (i + 1)) (i + 1) (drop m bytes)) r.0 next,
      shown_next price bytes l.shown l.at i c.requires.0 c.loop-pair-test.true l.invariant.0 (long s) read.wanted read.got
          (ap (λ (r : PairRead). r.wanted) (sym r.1)) (ap (λ (r : PairRead). r.got) (sym r.1)) _ l.invariant.2
          ∙ ap
          (λ (m : ℕ). take (2 * (i + 1)) (set (set l.shown (2 * i) read.wanted) (2 * i + 1) read.got) ++ shown (2000 - (i + 1)) (i + 1) (drop m bytes))
          next,
    )

pub returns : goal.returns
returns c =
    let l = c.loop-pair in
    let page = c.args.page.now in
    let none : 2000 - l.pair ≡ 0 = omega (arith, c.loop-pair-test.false) in (
      sym (l.invariant.1 ∙ ap (λ (m : ℕ). laid c.args.price m l.pair (drop l.at page)) none ∙ laid_end _ l.pair l.at page l.invariant.0),
      λ _.
          sym
          (l.invariant.2
          ∙ ap (λ (m : List ℕ). take (2 * l.pair) l.shown ++ m) (shown_end (2000 - l.pair) l.pair (drop l.at page) none)
          ∙ append-nil (take (2 * l.pair) l.shown)
          ∙ take_all (2 * l.pair) l.shown (omega (arith, l.auto.shown, c.requires.1, c.loop-pair-test.false))),
    )
