-- What an accepted saying writes into the slice that it is lent, whatever that held, is what is read off a run. Assumes nothing.
use Rattle.std.specs.Prelude.{Err, Ok}
use mathlib.Core.Path.{◌≡◌, refl, sym, ◌∙◌}
use mathlib.Core.Bool.{true, true≢false}
use mathlib.Core.List.{List}
use Prim.Native.Nat.{ℕ}
use lib.ListN.{length-replicate}
use Rattle.refusal.specs.Refusal.{Judgement}
use Rattle.refusal.proofs.Judging.{kept_new}
use Rattle.record.specs.declared.Party.{Party}
use Rattle.saying.specs.Say.{say_judgement, say_left}
use Rattle.saying.proofs.Laws.{says, say_accepted}
use Rattle.listening.specs.Listen.{width_of}
use Rattle.auction.specs.Call.{say_call, accepted, is_accepted, judgement}
use Rattle.auction.specs.Canonical.{lent_for, words}

was_accepted : (j : Judgement) → is_accepted j ≡ true → j ≡ Ok tt
unfolding is_accepted
was_accepted (Ok tt) e = refl
was_accepted (Err why) e = absurd (true≢false (sym e))

pub words_written : (q : Party) (totals sheets said : List ℕ) → accepted (say_call q totals sheets said) ≡ true
    → say_left q totals sheets said ≡ words q totals sheets
unfolding judgement words
words_written q totals sheets said e =
    let ok : say_judgement q totals sheets said ≡ Ok tt = was_accepted (say_judgement q totals sheets said) e in
    let f = says q totals sheets said ok in
    let also : say_judgement q totals sheets (lent_for q) ≡ Ok tt =
    say_accepted q totals sheets (lent_for q) (record { turn = f.turn; said_long = length-replicate {A = ℕ} (width_of q) 0; in_field = f.in_field }) in
    kept_new _ _ said ok ∙ sym (kept_new _ _ (lent_for q) also)
