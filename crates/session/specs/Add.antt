-- "Adding a bundle adds it to the book modulo p, word by word." "Each bid shall carry a bidder number". Assumes nothing.
use Rattle.std.specs.Prelude.{Bool, not, ◌&&◌, ◌||◌, List, [], ◌∷◌, ℕ, ◌*◌, ltb}
use Rattle.fields.specs.Amount.{p, amounts}
use Rattle.refusal.specs.Judging.{◌⇒◌, judged, kept}
use Rattle.refusal.specs.Refusal.{Judgement}
use Rattle.refusal.specs.declared.Refusal.TheVariants.{OutOfRange, WrongLength, OutOfTurn, AlreadyEntered, ShareOutOfRange}
use Rattle.ranges.specs.Lists.{every}
use Rattle.sharing.specs.Linear.{sums}
use Rattle.ranges.specs.Sizes.{long}
use Rattle.roll.specs.Marks.{is_bidder, marked}
use Rattle.record.specs.declared.Party.{Party}
use Rattle.record.specs.declared.Reply.{Reply}
use Rattle.record.specs.Record.{sound, replied}
use Rattle.record.specs.Updates.{entered}

-- "after the first heard round (probes done above 0 or round above 1)"
abbrev pub begun : Party → Bool
begun q = ltb 0 q.search.probes || ltb 1 q.round

abbrev pub amounts_below : List ℕ → Bool
amounts_below words = every (λ w. ltb w p) words

-- "A bidder number outside 1 to 1,000 is 1"; "14 Already in, when the number is marked, judged just after 3"
unfoldable pub add_judgement : (q : Party) (totals : List ℕ) (bidder : ℕ) (shares : List ℕ) → Judgement
add_judgement q totals bidder shares =
    judged
    ((not (sound q && is_bidder bidder) ⇒ OutOfRange)
    ∷ (not (long (2 * q.k) totals && long (2 * q.k) shares) ⇒ WrongLength)
    ∷ (begun q ⇒ OutOfTurn)
    ∷ (marked q.roll bidder ⇒ AlreadyEntered)
    ∷ (not (amounts_below totals && amounts_below shares) ⇒ ShareOutOfRange)
    ∷ [])

abbrev pub add_reply : (q : Party) (totals : List ℕ) (bidder : ℕ) (shares : List ℕ) → Reply
add_reply q totals bidder shares = replied (add_judgement q totals bidder shares) (entered q bidder) q

abbrev pub add_left : (q : Party) (totals : List ℕ) (bidder : ℕ) (shares : List ℕ) → List ℕ
add_left q totals bidder shares = kept (add_judgement q totals bidder shares) (sums amounts totals shares) totals
