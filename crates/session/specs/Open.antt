-- "Opening a session zeroes a book of 2k words and gives a record". Assumes nothing.
use Rattle.std.specs.Prelude.{not, ◌&&◌, List, [], ◌∷◌, ℕ, ◌*◌, replicate}
use Rattle.refusal.specs.Judging.{◌⇒◌, judged, kept}
use Rattle.refusal.specs.Refusal.{Judgement}
use Rattle.refusal.specs.declared.Refusal.TheVariants.{OutOfRange, WrongLength}
use Rattle.ranges.specs.Sizes.{party, listed, long}
use Rattle.ways.specs.Way.{is_way}
use Rattle.record.specs.declared.Reply.{Reply}
use Rattle.record.specs.Record.{replied, blank}
use Rattle.record.specs.Updates.{fresh}

unfoldable pub open_judgement : (n own k last : ℕ) (totals : List ℕ) → Judgement
open_judgement n own k last totals =
    judged
    ((not (party n own && listed k && is_way last) ⇒ OutOfRange)
    ∷ (not (long (2 * k) totals) ⇒ WrongLength)
    ∷ [])

abbrev pub open_reply : (n own k last : ℕ) (totals : List ℕ) → Reply
open_reply n own k last totals = replied (open_judgement n own k last totals) (fresh n own k last) blank

-- what the totals hold afterwards
abbrev pub open_left : (n own k last : ℕ) (totals : List ℕ) → List ℕ
open_left n own k last totals = kept (open_judgement n own k last totals) (replicate (2 * k) 0) totals
