-- `by_level` meets its contract. Assumes nothing.
use mathlib.Core.Path.{◌≡◌, refl, sym, ap, ◌∙◌}
use mathlib.Core.Bool.{Bool, true, false, cond}
use mathlib.Core.List.{List}
use Prim.Native.Nat.{ℕ, ◌+◌, ◌*◌}
use native.Mathlib.Omega.{arith}
use borrow.Author.Rules.{rules}
use Rattle.std.proofs.Common.{Option, Some, None, Result, Err}
use Rattle.std.specs.Option.{ok_or}
use Rattle.std.specs.Result.{result_ok}
use Rattle.std.proofs.lemmas.Option.{cond_some}
use Rattle.std.proofs.lemmas.Result.{err_from_is_err_and}
use Rattle.kept_pairs.specs.declared.Pairs.{Pairs}
use Rattle.refusal.specs.declared.Refusal.{Refusal}
use Rattle.refusal.specs.declared.Refusal.TheVariants.{Inconsistent}
use Rattle.refusal.proofs.Judging.{kept_new, kept_old}
use Rattle.presence.specs.Presence.{all_or}
use Rattle.record.specs.declared.Party.{Party}
use Rattle.record.specs.Updates.{in_round}
use Rattle.record.proofs.Soundness.{Sound, sound_facts, few_rounds}
use Rattle.record_words.specs.Words.{words_of, party_of}
use Rattle.round.specs.declared.Heard.TheVariants.{Factors, Unopened}
use Rattle.level.specs.Level.{Ready}
use Rattle.level_round.specs.Columns.{level_opened}
use Rattle.stepping.specs.After.{after_level}
use Rattle.message.specs.Message.{in_level}
use Rattle.message.proofs.Messages.{level_wide, level_ready}
use Rattle.listening.specs.Listen.{width_of, opening_judgement, opened_judgement}
use Rattle.listening.proofs.Laws.{level_opening, level_accepted, level_refused}
use Rattle.heard_round.specs.Next.{heard_next, HasSheet}
use Rattle.heard_round.proofs.Same.{judged_same, left_same}
use Rattle.heard_round.proofs.Left.{level_next}
use Rattle.heard_round.proofs.by_level.Goals as goal
use Rattle.heard_round.proofs.by_level.Goals.{After-read-q}

module _ (c : After-read-q) where
  abbrev words : List ℕ
  words = c.args.words.now

  abbrev sheet : List ℕ
  sheet = c.args.sheet.now

  abbrev messages : List ℕ
  messages = c.args.messages.now

  -- the record that the words say
  abbrev q : Party
  q = c.read-q.result

  read_is : q ≡ party_of words
  read_is = c.read-q.ensures

  has : HasSheet q sheet
  has = rw (sym read_is) at c.requires.1

  in_it : in_level q ≡ true
  in_it = ap in_level read_is ∙ c.requires.2

  facts : Sound q
  facts = sound_facts q has.sound

  ready : Ready q.round q.pairs.words sheet
  ready = level_ready q sheet facts in_it has.sheet_long has.sheet_bytes

  abbrev present : List ℕ
  present = all_or c.args.all q.n c.args.present.now

  abbrev opens : Bool
  opens = level_opened q.n q.round present messages

  judges : (b : Bool) → opens ≡ b → opened_judgement q present messages ≡ opening_judgement q.round q.demand q.supply (cond b (Factors 0 0) Unopened)
  judges b e =
      ap (opening_judgement q.round q.demand q.supply) (level_opening q messages present in_it ∙ ap (λ (x : Bool). cond x (Factors 0 0) Unopened) e)

pub slice_bounds-level-end : goal.slice_bounds-level-end
slice_bounds-level-end c = search (rules, (ready (goal.at.slice_bounds-level-end c).After-read-q).kept_long)

pub invariant_of-level : goal.invariant_of-level
invariant_of-level c = record { ready = ready (goal.at.invariant_of-level c).After-read-q }

pub hear_level-requires : goal.hear_level-requires
hear_level-requires c =
    let r = (goal.at.hear_level-requires c).After-read-q in
    let l = (facts r).listed in (
      l.parties_least,
      l.parties_most,
      c.requires.3 ∙ ap (λ (x : Party). x.n * width_of x) (sym (read_is r)) ∙ ap (λ (w : ℕ). (q r).n * w) (level_wide (q r) (in_it r)),
    )

-- whether the level opened, by what was given
shut : (b : Bool) (x : Pairs) → cond b (Some x) None ≡ None → b ≡ false
shut true x e = cc
shut false x e = refl

reason : (why other : Refusal) → ◌≡◌ {A = Result Pairs Refusal} (Err why) (Err other) → why ≡ other
reason why other e = cc

pub returns-in_err-next : goal.returns-in_err-next
returns-in_err-next c =
    let r = (goal.at.returns-in_err-next c).After-read-q in
    let none : c.hear_level.result ≡ None = c.ok_or.ensures.ok_part ∙ ap result_ok c.in_err-next.was in
    let why = reason _ _ (sym c.in_err-next.was ∙ c.ok_or.ensures.value ∙ ap (λ (o : Option Pairs). ok_or o Inconsistent) none) in
    let p = err_from_is_err_and c.from_residual.result c.from_residual.ensures.1 in
    let e = judges r false (shut _ _ (sym c.hear_level.ensures ∙ none)) ∙ level_refused (q r).round (q r).demand (q r).supply in (
      p.1 ∙ ap Err (p.2 ∙ why) ∙ sym e ∙ judged_same (q r) _ (read_is r) c.args.all (sheet r) (messages r) c.args.present.now (words r),
      sym (kept_old _ (words_of (heard_next (q r) (sheet r) (messages r) (present r))) (words r) _ e)
          ∙ left_same (q r) _ (read_is r) c.args.all (sheet r) (messages r) c.args.present.now (words r),
    )

pub overflow_add-q : goal.overflow_add-q
overflow_add-q c = let r = (goal.at.overflow_add-q c).After-read-q in omega (arith, few_rounds (q r) (facts r))

pub store_level-requires : goal.store_level-requires
store_level-requires c = c.requires.0

-- the words say the record
stepped : (q p : Party) (kept : List ℕ) → p ≡ q → in_round p (q.round + 1) p.sum p.carry (record { words = kept }) ≡ after_level q kept
unfolding after_level
stepped q p kept e = ap (λ (r : Party). in_round r (q.round + 1) r.sum r.carry (record { words = kept })) e

pub returns : goal.returns
returns c =
    let r = (goal.at.returns c).After-read-q in
    let given : c.hear_level.result ≡ Some c.in_ok-next.next = c.ok_or.ensures.ok_part ∙ ap result_ok c.in_ok-next.was in
    let o = cond_some _ _ _ (sym c.hear_level.ensures ∙ given) in
    let e = judges r true o.0 ∙ level_accepted (q r).round (q r).demand (q r).supply in
    let left = c.store_level.ensures
    ∙ ap words_of
    (stepped (q r) _ c.in_ok-next.next.words (sym (read_is r)) ∙ ap (λ (x : Pairs). after_level (q r) x.words) (sym o.1)
    ∙ sym (level_next (q r) (sheet r) (messages r) (present r) (in_it r)))
    ∙ sym (kept_new _ _ (words r) e) in (
      sym e ∙ judged_same (q r) _ (read_is r) c.args.all (sheet r) (messages r) c.args.present.now (words r),
      left ∙ left_same (q r) _ (read_is r) c.args.all (sheet r) (messages r) c.args.present.now (words r),
    )
