-- What a heard round makes of the record, a level or a round of single words. Assumes nothing.
use Rattle.std.specs.Prelude.{◌≡◌, true, cond, List, ℕ, ltb, length, drop}
use Rattle.ranges.specs.Lists.{every}
use Rattle.record.specs.declared.Party.{Party}
use Rattle.record.specs.Record.{sound}
use Rattle.round.specs.Round.{heard}
use Rattle.level.specs.Level.{level_kept}
use Rattle.level_round.specs.Columns.{level_sides}
use Rattle.message.specs.Message.{sheet_words, in_level}
use Rattle.stepping.specs.After.{role, after, after_level}

unfoldable pub heard_next : (q : Party) (sheet messages present : List ℕ) → Party
heard_next q sheet messages present =
    cond (in_level q) (after_level q (level_kept q.round q.sum q.pairs.words sheet (level_sides q.n q.round present messages)))
    (after q sheet (heard q.n (role q) present messages))

-- what a party has once refusals 1 to 3 are out, and 8 of the sheet
pub record HasSheet (q : Party) (sheet : List ℕ) : Type 0 where
  pub sound : sound q ≡ true
  pub sheet_long : length sheet ≡ sheet_words q
  pub sheet_bytes : every (λ w. ltb w 256) (drop 1 sheet) ≡ true
