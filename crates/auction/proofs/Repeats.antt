-- Lists with repeats: a saying or an asking may be doubled. Assumes nothing.
use mathlib.Core.Path.{◌≡◌, refl}
use mathlib.Core.List.{List, [], ◌∷◌, ◌++◌}
use Prim.Native.Nat.{ℕ}
use Rattle.record.specs.declared.Party.{Party}
use Rattle.auction.specs.Call.{Call, say_call, answer_call}
use Rattle.auction.specs.Run.{Repeats}

pub repeats_refl : (l : List Call) → Repeats l l
repeats_refl [] = Repeats.end
repeats_refl (c ∷ cs) = Repeats.next (repeats_refl cs)

-- a saying or an asking stands twice
data Doubled : List Call → List Call → Type 0 where
  said : {q : Party} {totals sheets said : List ℕ} {l : List Call}
      → Doubled (say_call q totals sheets said ∷ l) (say_call q totals sheets said ∷ say_call q totals sheets said ∷ l)
  asked : {q : Party} {l : List Call} → Doubled (answer_call q ∷ l) (answer_call q ∷ answer_call q ∷ l)
  after : {x : Call} {l m : List Call} → Doubled l m → Doubled (x ∷ l) (x ∷ m)

repeats_doubled : {cs ds es : List Call} → Repeats cs ds → Doubled ds es → Repeats cs es
repeats_doubled Repeats.end d = elim d [ ]
repeats_doubled (Repeats.next h) said = Repeats.say_again (Repeats.next h)
repeats_doubled (Repeats.next h) asked = Repeats.ask_again (Repeats.next h)
repeats_doubled (Repeats.next h) (after d) = Repeats.next (repeats_doubled h d)
repeats_doubled (Repeats.say_again h) said = Repeats.say_again (Repeats.say_again h)
repeats_doubled (Repeats.say_again h) (after d) = Repeats.say_again (repeats_doubled h d)
repeats_doubled (Repeats.ask_again h) asked = Repeats.ask_again (Repeats.ask_again h)
repeats_doubled (Repeats.ask_again h) (after d) = Repeats.ask_again (repeats_doubled h d)

said_at : (q : Party) (totals sheets said : List ℕ) (ds es : List Call)
    → Doubled (ds ++ (say_call q totals sheets said ∷ es)) (ds ++ (say_call q totals sheets said ∷ say_call q totals sheets said ∷ es))
said_at q totals sheets d [] es = said
said_at q totals sheets d (x ∷ ds) es = after (said_at q totals sheets d ds es)

asked_at : (q : Party) (ds es : List Call) → Doubled (ds ++ (answer_call q ∷ es)) (ds ++ (answer_call q ∷ answer_call q ∷ es))
asked_at q [] es = asked
asked_at q (d ∷ ds) es = after (asked_at q ds es)

pub repeats_say : (cs : List Call) (q : Party) (totals sheets said : List ℕ) (ds es : List Call)
    → Repeats cs (ds ++ (say_call q totals sheets said ∷ es)) → Repeats cs (ds ++ (say_call q totals sheets said ∷ say_call q totals sheets said ∷ es))
repeats_say cs q totals sheets d ds es h = repeats_doubled h (said_at q totals sheets d ds es)

pub repeats_ask : (cs : List Call) (q : Party) (ds es : List Call)
    → Repeats cs (ds ++ (answer_call q ∷ es)) → Repeats cs (ds ++ (answer_call q ∷ answer_call q ∷ es))
repeats_ask cs q ds es h = repeats_doubled h (asked_at q ds es)

pub repeats_none : {ds : List Call} → Repeats [] ds → ds ≡ []
repeats_none Repeats.end = refl
