-- `listens` meets its contract: each return answers one test. Assumes nothing.
use mathlib.Core.Path.{◌≡◌, refl, sym, ap, ap₂, ◌∙◌}
use mathlib.Core.Bool.{Bool, true, false, not, ◌&&◌}
use mathlib.Core.List.{List}
use Prim.Native.Nat.{ℕ, ◌-◌}
use native.Mathlib.Omega.{arith}
use lib.Dec.{leb, eqb, ltb}
use lib.ListN.{drop, get_or}
use borrow.Author.Tests.{eqb-true, eqb-false, le-leb, lt-leb, eq-eqb, ne_eqb}
use Rattle.ranges.specs.Lists.{every, same}
use Rattle.ranges.proofs.Loops.{and_false}
use Rattle.refusal.proofs.Judging.{refuses, passes, all_passed}
use Rattle.sharing.specs.Scheme.{threshold}
use Rattle.presence.specs.Presence.{how_many, is_present}
use Rattle.record.specs.declared.Party.{Party}
use Rattle.record.proofs.Soundness.{sound_facts}
use Rattle.message.specs.Message.{are_shares, in_field, message, demand_share, supply_share}
use Rattle.message.proofs.Sheets.{probe_words, total_words, in_field_bytes}
use Rattle.listening.specs.Listen.{own_words, listening_judgement}
use Rattle.listening.proofs.listens.Goals as goal
use Rattle.listening.proofs.listens.Goals.{After-are_shares, Else-count-threshold, Else-not-are_shares, Joined-else-here, else-here-via-then-here+else-not-says, else-here-via-else-here}

swapped : (m : ℕ) → eqb m 1 ≡ eqb 1 m
swapped m = split (eqb 1 m) refl
  where
    split : (b : Bool) → eqb 1 m ≡ b → eqb m 1 ≡ b
    split true e = eq-eqb m 1 (sym (eqb-true 1 m e))
    split false e = ne_eqb m 1 (λ f. eqb-false 1 m e (sym f))

module _ (q : Party) (present : List ℕ) where
  abbrev own_mark : ℕ
  own_mark = get_or present (q.own - 1) 0

  abbrev here : Bool
  here = is_present present q.own

enough : (c : Else-count-threshold) → leb (how_many c.args.present.now) (threshold c.args.q.n) ≡ false
enough c = ap₂ leb (sym c.requires.4) (sym c.threshold.ensures) ∙ lt-leb _ _ c.if-count-threshold.false

-- what of the words is judged, by what the calls return
judged_as : (q : Party) (present totals sheet : List ℕ) (d s : ℕ) (r : Bool) → r ≡ are_shares q.round (eqb (own_mark q present) 1) d s sheet
    → d ≡ demand_share q totals → s ≡ supply_share q totals → in_field q (here q present) totals sheet ≡ r
judged_as q present totals sheet d s r e f g =
    sym
    (e ∙ ap₂ (λ (x y : ℕ). are_shares q.round (eqb (own_mark q present) 1) x y sheet) f g
    ∙ ap (λ (b : Bool). in_field q b totals sheet) (swapped (own_mark q present)))

judges : (c : After-are_shares) → in_field c.args.q (here c.args.q c.args.present.now) c.args.totals.now c.args.sheet.now ≡ c.are_shares.result
judges c =
    judged_as c.args.q c.args.present.now c.args.totals.now c.args.sheet.now _ _ _ c.are_shares.ensures c.totals_at.ensures.demand c.totals_at.ensures.supply

module _ (c : Else-not-are_shares) where
  in_range : in_field c.args.q (here c.args.q c.args.present.now) c.args.totals.now c.args.sheet.now ≡ true
  in_range =
      judged_as c.args.q c.args.present.now c.args.totals.now c.args.sheet.now _ _ _ c.are_shares.ensures c.totals_at.ensures.demand c.totals_at.ensures.supply
      ∙ c.if-not-are_shares.false

  sheet_bytes : every (λ w. ltb w 256) (drop 1 c.args.sheet.now) ≡ true
  sheet_bytes = in_field_bytes c.args.q (here c.args.q c.args.present.now) c.args.totals.now c.args.sheet.now in_range

-- the own words are the party's, where it was present
own_same : (c : Joined-else-here) → here c.args.q c.args.present.now && not (same (own_words c.args.q c.args.messages.now) (message c.args.q c.args.totals.now c.args.sheet.now)) ≡ false
own_same c =
    elim c.else-here.branch [
      | else-here-via-then-here+else-not-says w ↦ and_false (here c.args.q c.args.present.now) _ (ap not (sym w.says.ensures ∙ w.if-not-says.false))
      | else-here-via-else-here w ↦ ap (λ (b : Bool). b && not (same (own_words c.args.q c.args.messages.now) (message c.args.q c.args.totals.now c.args.sheet.now))) (sym (swapped (own_mark c.args.q c.args.present.now)) ∙ ne_eqb _ 1 w.if-here.false)
    ]

pub returns-then-count-threshold : goal.returns-then-count-threshold
unfolding listening_judgement
returns-then-count-threshold c =
    sym (refuses _ _ _ (ap₂ leb (sym c.requires.4) (sym c.threshold.ensures) ∙ le-leb _ _ c.if-count-threshold.true))

pub overflow_sub-own : goal.overflow_sub-own
overflow_sub-own c = (sound_facts c.args.q c.requires.0).listed.own_least

pub bounds-present-own : goal.bounds-present-own
bounds-present-own c =
    let l = (sound_facts c.args.q c.requires.0).listed in
    omega (arith, c.requires.6, l.own_least, l.own_most)

pub are_shares-requires : goal.are_shares-requires
are_shares-requires c =
    ((λ l. c.requires.3 ∙ probe_words c.args.q l), (λ l. c.requires.3 ∙ total_words c.args.q l))

pub returns-then-not-are_shares : goal.returns-then-not-are_shares
unfolding listening_judgement
returns-then-not-are_shares c =
    sym (passes _ _ _ (enough (goal.at.returns-then-not-are_shares c).Else-count-threshold) ∙ refuses _ _ _ (ap not (judges (goal.at.returns-then-not-are_shares c).After-are_shares ∙ c.if-not-are_shares.true)))

pub says-requires : goal.says-requires
says-requires c =
    (c.requires.0, c.requires.1, c.requires.2, c.requires.3, sheet_bytes (goal.at.says-requires c).Else-not-are_shares, c.requires.5)

pub returns-then-not-says : goal.returns-then-not-says
unfolding listening_judgement
returns-then-not-says c =
    let differs = ap not (sym c.says.ensures ∙ c.if-not-says.true) in
    sym
    (passes _ _ _ (enough (goal.at.returns-then-not-says c).Else-count-threshold) ∙ passes _ _ _ (ap not (in_range (goal.at.returns-then-not-says c).Else-not-are_shares))
    ∙ refuses _ _ _ (ap₂ ◌&&◌ (sym (swapped (own_mark c.args.q c.args.present.now)) ∙ eq-eqb _ 1 c.if-here.true) differs))

pub returns : goal.returns
unfolding listening_judgement
returns c =
    sym
    (passes _ _ _ (enough (goal.at.returns c).Else-count-threshold) ∙ passes _ _ _ (ap not (in_range (goal.at.returns c).Else-not-are_shares)) ∙ passes _ _ _ (own_same c)
    ∙ all_passed)
