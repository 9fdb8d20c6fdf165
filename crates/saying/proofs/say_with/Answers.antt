-- `say_with` meets its contract: a level's words, or a single one. Assumes nothing.
use Rattle.std.proofs.Common.{Ok}
use mathlib.Core.Path.{◌≡◌, refl, sym, ap, ap₂, ◌∙◌}
use mathlib.Core.Bool.{Bool, true, not}
use mathlib.Core.List.{List, [], ◌∷◌}
use Prim.Native.Nat.{ℕ}
use native.Mathlib.Omega.{arith}
use lib.Dec.{ltb}
use lib.ListN.{length, drop, set}
use Rattle.refusal.proofs.Judging.{refuses, passes, all_passed, kept_new, kept_old}
use Rattle.ranges.specs.Lists.{every}
use Rattle.record.specs.declared.Party.{Party}
use Rattle.record.proofs.Soundness.{sound_facts}
use Rattle.message.specs.Message.{demand_share, supply_share, are_shares, in_field, in_level}
use Rattle.message.proofs.Sheets.{probe_words, total_words, in_field_bytes}
use Rattle.message.proofs.Messages.{level_wide, level_ready, single_wide, level_message, single_message}
use Rattle.saying.specs.Say.{words_judgement}
use borrow.Author.Rules.{rules}
use Rattle.saying.proofs.say_with.Goals as goal
use Rattle.saying.proofs.say_with.Goals.{After-single, Else-not-are_shares, Then-in_level}

-- one word is written
only : (said : List ℕ) (w : ℕ) → length said ≡ 1 → set said 0 w ≡ w ∷ []
only [] w e = absurd (omega (arith, e))
only (x ∷ []) w e = refl
only (x ∷ y ∷ ys) w e = absurd (omega (arith, e))

-- how the words are judged, by what the calls return
judged_as : (q : Party) (totals sheet : List ℕ) (d s : ℕ) (r : Bool) → r ≡ are_shares q.round true d s sheet → d ≡ demand_share q totals → s ≡ supply_share q totals
    → in_field q true totals sheet ≡ r
judged_as q totals sheet d s r e f g = sym (e ∙ ap₂ (λ (d s : ℕ). are_shares q.round true d s sheet) f g)

pub are_shares-requires : goal.are_shares-requires
are_shares-requires c =
    ((λ l. c.requires.3 ∙ probe_words c.args.q l), (λ l. c.requires.3 ∙ total_words c.args.q l))

pub returns-then-not-are_shares : goal.returns-then-not-are_shares
unfolding words_judgement
returns-then-not-are_shares c =
    let e = refuses _ _ _ (ap not (judged_as c.args.q c.args.totals.now c.args.sheet.now _ _ _ c.are_shares.ensures c.totals_at.ensures.demand c.totals_at.ensures.supply ∙ c.if-not-are_shares.true)) in
    (sym e, sym (kept_old _ _ _ _ e))

-- where the words are shares
module _ (c : Else-not-are_shares) where
  shares : in_field c.args.q true c.args.totals.now c.args.sheet.now ≡ true
  shares =
      judged_as c.args.q c.args.totals.now c.args.sheet.now _ _ _ c.are_shares.ensures c.totals_at.ensures.demand c.totals_at.ensures.supply
      ∙ c.if-not-are_shares.false

  words : every (λ w. ltb w 256) (drop 1 c.args.sheet.now) ≡ true
  words = in_field_bytes c.args.q true c.args.totals.now c.args.sheet.now shares

  accepted : words_judgement c.args.q c.args.totals.now c.args.sheet.now ≡ Ok tt
  unfolding words_judgement
  accepted = passes _ _ _ (ap not shares) ∙ all_passed

in_it : (c : Then-in_level) → in_level c.args.q ≡ true
in_it c = sym c.in_level.ensures ∙ c.if-in_level.true

pub slice_bounds-level-end : goal.slice_bounds-level-end
slice_bounds-level-end c =
    let at = goal.at.slice_bounds-level-end c in
    let ready = level_ready c.args.q c.args.sheet.now (sound_facts c.args.q c.requires.0) (in_it at.Then-in_level) c.requires.3 (words at.Else-not-are_shares) in
    search (rules, ready.kept_long)

pub invariant_of-level : goal.invariant_of-level
invariant_of-level c =
    let at = goal.at.invariant_of-level c in
    record { ready = level_ready c.args.q c.args.sheet.now (sound_facts c.args.q c.requires.0) (in_it at.Then-in_level) c.requires.3 (words at.Else-not-are_shares) }

pub write_words-requires : goal.write_words-requires
write_words-requires c = c.requires.4 ∙ level_wide c.args.q (in_it (goal.at.write_words-requires c).Then-in_level)

pub returns-then-in_level : goal.returns-then-in_level
returns-then-in_level c =
    let a = c.args in (
      sym (accepted (goal.at.returns-then-in_level c).Else-not-are_shares),
      c.write_words.ensures ∙ sym (level_message a.q a.totals.now a.sheet.now (in_it (goal.at.returns-then-in_level c).Then-in_level))
          ∙ sym (kept_new _ _ _ (accepted (goal.at.returns-then-in_level c).Else-not-are_shares)),
    )

pub single-requires : goal.single-requires
single-requires c =
    (c.requires.0, c.requires.1, c.requires.2, c.requires.3, words (goal.at.single-requires c).Else-not-are_shares)

-- where one word is said
module _ (c : After-single) where
  one : length c.args.said.now ≡ 1
  one =
      c.requires.4 ∙ single_wide c.args.q (sym c.in_level.ensures ∙ c.if-in_level.false)

pub bounds-said-0 : goal.bounds-said-0
bounds-said-0 c = omega (arith, one c)

pub returns : goal.returns
returns c =
    let a = c.args in (
      sym (accepted (goal.at.returns c).Else-not-are_shares),
      only a.said.now c.single.result (one c)
          ∙ ap (λ (w : ℕ). w ∷ []) c.single.ensures
          ∙ sym (single_message a.q a.totals.now a.sheet.now (sym c.in_level.ensures ∙ c.if-in_level.false))
          ∙ sym (kept_new _ _ _ (accepted (goal.at.returns c).Else-not-are_shares)),
    )
