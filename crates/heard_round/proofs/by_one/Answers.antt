-- `by_one` meets its contract. Assumes nothing.
use mathlib.Core.Path.{◌≡◌, sym, ap, ◌∙◌}
use mathlib.Core.Bool.{false, cond}
use mathlib.Core.List.{List}
use Prim.Native.Nat.{ℕ}
use lib.Dec.{eqb}
use Rattle.std.proofs.Common.{Err}
use Rattle.std.proofs.lemmas.Result.{err_from_is_err_and}
use Rattle.refusal.proofs.Judging.{kept_new, kept_old, passed}
use Rattle.presence.specs.Presence.{all_or}
use Rattle.kept_pairs.specs.Pairs.{none}
use Rattle.record.specs.declared.Party.{Party}
use Rattle.record.proofs.Soundness.{sound_facts}
use Rattle.record_words.specs.Words.{words_of, party_of}
use Rattle.round.specs.Round.{heard, unopened, Possible}
use Rattle.round.specs.declared.Heard.{Heard}
use Rattle.refusal.specs.Refusal.{Judgement}
use Rattle.round.proofs.Opened.{heard_possible}
use Rattle.stepping.specs.After.{role, after}
use Rattle.message.specs.Message.{in_level}
use Rattle.listening.specs.Listen.{opening_judgement, opened_judgement}
use Rattle.listening.proofs.Laws.{one_opening}
use Rattle.heard_round.specs.Next.{heard_next, HasSheet}
use Rattle.heard_round.proofs.Roles.{role_least}
use Rattle.heard_round.proofs.Left.{after_roll, after_pairs}
use Rattle.heard_round.proofs.Same.{judged_same, left_same}
use Rattle.heard_round.proofs.Left.{one_next}
use Rattle.heard_round.proofs.by_one.Goals as goal
use Rattle.heard_round.proofs.by_one.Goals.{After-read-q, In_ok-judge}

module _ (c : After-read-q) where
  abbrev words : List ℕ
  words = c.args.words.now

  abbrev sheet : List ℕ
  sheet = c.args.sheet.now

  abbrev messages : List ℕ
  messages = c.args.messages.now

  -- the record that the words say
  abbrev q : Party
  q = c.read-q.result

  read_is : q ≡ party_of words
  read_is = c.read-q.ensures

  has : HasSheet q sheet
  has = rw (sym read_is) at c.requires.1

  single : in_level q ≡ false
  single = ap in_level read_is ∙ c.requires.2

  abbrev present : List ℕ
  present = all_or c.args.all q.n c.args.present.now

  possible : (h : Heard) → h ≡ heard q.n (role q) present messages → Possible (role q) h
  possible h e = rw (sym e) at (heard_possible q.n (role q) present messages (role_least q (sound_facts q has.sound).round.least))

  judges : (h : Heard) (j : Judgement) → h ≡ heard q.n (role q) present messages → j ≡ opening_judgement q.round q.demand q.supply h
      → opened_judgement q present messages ≡ j
  judges h j e f = ap (opening_judgement q.round q.demand q.supply) (one_opening q messages present single ∙ sym e) ∙ sym f

pub after-requires : goal.after-requires
after-requires c =
    let r = (goal.at.after-requires c).After-read-q in
    let h = has r in
    (h.sound, h.sheet_long, h.sheet_bytes, possible r _ c.open_single-opened.ensures)

-- the words open where the round is accepted
opened : (c : In_ok-judge) → unopened c.open_single-opened.result ≡ false
opened c = (passed _ _ _ (sym c.judge.ensures ∙ c.in_ok-judge.was)).0

pub store_heard-requires : goal.store_heard-requires
store_heard-requires c =
    let r = (goal.at.store_heard-requires c).After-read-q in
    let made = c.after.ensures in (
      c.requires.0,
      ap (λ (x : Party). x.roll) made ∙ after_roll (q r) (sheet r) c.open_single-opened.result ∙ ap (λ (x : Party). x.roll) (read_is r),
      ap (λ (x : Party). x.pairs) made
          ∙ after_pairs (q r) (sheet r) c.open_single-opened.result (sound_facts (q r) (has r).sound) (possible r _ c.open_single-opened.ensures) (opened (goal.at.store_heard-requires c).In_ok-judge)
          ∙ ap (λ (x : Party). cond (eqb (q r).round (q r).last) none x.pairs) (read_is r),
    )

pub returns : goal.returns
returns c =
    let r = (goal.at.returns c).After-read-q in
    let e = judges r _ _ c.open_single-opened.ensures c.judge.ensures ∙ c.in_ok-judge.was in
    let left = c.store_heard.ensures
    ∙ ap words_of (c.after.ensures ∙ ap (after (q r) (sheet r)) c.open_single-opened.ensures ∙ sym (one_next (q r) (sheet r) (messages r) (present r) (single r)))
    ∙ sym (kept_new _ _ (words r) e) in (
      sym e ∙ judged_same (q r) _ (read_is r) c.args.all (sheet r) (messages r) c.args.present.now (words r),
      left ∙ left_same (q r) _ (read_is r) c.args.all (sheet r) (messages r) c.args.present.now (words r),
    )

pub returns-in_err-judge : goal.returns-in_err-judge
returns-in_err-judge c =
    let r = (goal.at.returns-in_err-judge c).After-read-q in
    let p = err_from_is_err_and c.from_residual.result c.from_residual.ensures.1 in
    let e = judges r _ _ c.open_single-opened.ensures c.judge.ensures ∙ c.in_err-judge.was in (
      p.1 ∙ ap Err p.2 ∙ sym e ∙ judged_same (q r) _ (read_is r) c.args.all (sheet r) (messages r) c.args.present.now (words r),
      sym (kept_old _ (words_of (heard_next (q r) (sheet r) (messages r) (present r))) (words r) _ e)
          ∙ left_same (q r) _ (read_is r) c.args.all (sheet r) (messages r) c.args.present.now (words r),
    )
