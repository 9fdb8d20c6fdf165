-- `say_judged` meets its contract. Assumes nothing.
use Rattle.std.proofs.Common.{Ok, Err}
use Rattle.std.proofs.lemmas.Result.{err_from_is_err_and}
use mathlib.Core.Path.{◌≡◌, sym, ap, ap₂, ◌∙◌}
use mathlib.Core.Bool.{Bool}
use mathlib.Core.List.{List}
use Prim.Native.Nat.{ℕ}
use lib.Dec.{eqb}
use lib.ListN.{length}
use Rattle.ways.specs.Way.{way_of, width}
use Rattle.record.specs.declared.Party.{Party}
use Rattle.record.specs.Record.{sound}
use Rattle.record.proofs.Soundness.{sound_of}
use Rattle.refusal.specs.Judging.{kept}
use Rattle.refusal.specs.Refusal.{Judgement}
use Rattle.refusal.proofs.Judging.{kept_old}
use Rattle.message.specs.Message.{message}
use Rattle.saying.specs.Say.{current, turn_judgement, words_judgement, say_judgement}
use Rattle.saying.proofs.Sheets.{current_there, current_long}
use Rattle.saying.proofs.Laws.{InTurn, says_turn, no_turn, by_words, said_fits}
use Rattle.saying.proofs.say_judged.Goals as goal
use Rattle.saying.proofs.say_judged.Goals.{In_ok-turn}

-- how `turn` was called
turned : (q : Party) (totals sheets said : List ℕ) (whole : Bool) (wide : ℕ) (r : Judgement) → whole ≡ sound q → wide ≡ width (way_of q.last) q.round
    → r ≡ turn_judgement q whole totals sheets (eqb (length said) wide) → turn_judgement q (sound q) totals sheets (said_fits q totals sheets said) ≡ r
turned q totals sheets said whole wide r w n e =
    ap₂ (λ (b : Bool) (n : ℕ). turn_judgement q b totals sheets (eqb (length said) n)) (sym w) (sym n) ∙ sym e

-- where it is the party's turn
module _ (c : In_ok-turn) where
  abbrev q : Party
  q = c.args.q

  abbrev totals : List ℕ
  totals = c.args.totals.now

  abbrev sheets : List ℕ
  sheets = c.args.sheets.now

  abbrev said : List ℕ
  said = c.args.said.now

  in_turn : turn_judgement q (sound q) totals sheets (said_fits q totals sheets said) ≡ Ok tt
  in_turn = turned q totals sheets said _ _ _ c.requires c.width.ensures c.turn.ensures ∙ c.in_ok-turn.was

  facts : InTurn q totals sheets
  facts = (says_turn q totals sheets said in_turn).0

  fits : length said ≡ width (way_of q.last) q.round
  fits = (says_turn q totals sheets said in_turn).1

  going_on : say_judgement q totals sheets said ≡ words_judgement q totals (current q sheets)
  going_on = by_words q totals sheets said in_turn

pub returns-in_err-turn : goal.returns-in_err-turn
returns-in_err-turn c =
    let a = c.args in
    let p = err_from_is_err_and c.from_residual.result c.from_residual.ensures.1 in
    let e = no_turn a.q a.totals.now a.sheets.now a.said.now _ (turned a.q a.totals.now a.sheets.now a.said.now _ _ _ c.requires c.width.ensures c.turn.ensures ∙ c.in_err-turn.was) in
    (p.1 ∙ ap Err p.2 ∙ sym e, sym (kept_old _ _ _ _ e))

pub current-requires : goal.current-requires
current-requires c =
    let f = facts c in
    current_there c.args.q f.sound f.going c.args.sheets.now f.sheets_long

pub say_with-requires : goal.say_with-requires
say_with-requires c =
    let f = facts (goal.at.say_with-requires c).In_ok-turn in (
      sound_of c.args.q f.sound,
      f.going,
      f.totals_long,
      ap length c.current.ensures ∙ current_long c.args.q f.sound f.going c.args.sheets.now f.sheets_long,
      fits (goal.at.say_with-requires c).In_ok-turn,
    )

pub returns : goal.returns
returns c =
    let e = going_on (goal.at.returns c).In_ok-turn in
    let n = c.current.ensures in (
      c.say_with.ensures.0 ∙ ap (words_judgement c.args.q c.args.totals.now) n ∙ sym e,
      c.say_with.ensures.1
          ∙ ap (λ (sheet : List ℕ). kept (words_judgement c.args.q c.args.totals.now sheet) (message c.args.q c.args.totals.now sheet) c.args.said.now) n
          ∙ ap (λ (j : Judgement). kept j (message c.args.q c.args.totals.now (current c.args.q c.args.sheets.now)) c.args.said.now) (sym e),
    )
