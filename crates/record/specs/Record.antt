-- The record of a session, and when it is sound. Assumes nothing.
use Rattle.std.specs.Prelude.{Bool, cond, ◌&&◌, ℕ, ◌+◌, ◌^◌, leb, ltb, eqb}
use Rattle.refusal.specs.Judging.{kept}
use Rattle.refusal.specs.Refusal.{Judgement}
use Rattle.ranges.specs.Sizes.{party, listed}
use Rattle.search.specs.declared.searches.Search.{Search}
use Rattle.search.specs.Searches as searches
use Rattle.search.specs.Searches.{finished, clears}
use Rattle.roll.specs.Marks.{marks, proper, empty}
use Rattle.ways.specs.Way.{is_way}
use Rattle.kept_pairs.specs.Pairs.{none, small}
use Rattle.record.specs.declared.Party.{Party}
use Rattle.record.specs.declared.Reply.{Reply}

-- "An opened total of 2^32 or more, or S above D, is 11 (in a record, 1)"
unfoldable pub are_totals : (demand supply : ℕ) → Bool
are_totals demand supply = ltb demand (2 ^ 32) && ltb supply (2 ^ 32) && leb supply demand

-- "round outside 1 to 33", or past the last one of a probe; "Once the searches end with m not 0, refusal 1 admits only these rounds and
-- then 36": 34 and 35 open total demand and total supply
unfoldable pub round_sound : Search → (last round : ℕ) → Bool
round_sound s last round = cond (clears s) (leb 34 round && leb round 36) (leb 1 round && leb round last)

-- Free of refusal 1: "n, keeper number or k outside its range; a record with .. T at or above 2^59 + 2^33, carry above 255", a round out
-- of turn, searches outside their bounds (`Searches.sound`), or totals outside theirs. The roll is one of bidders alone, and "The number
-- of bids held is the number of marks on the roll; a record that differs is 1", so bids are at most 1,000. "33 or 7 as the last round of its
-- probes; another, .. or a kept pair share above 255 is 1".
unfoldable pub sound : Party → Bool
sound q =
    party q.n q.own
    && listed q.k
    && searches.sound q.k q.search
    && round_sound q.search q.last q.round
    && ltb q.sum (2 ^ 59 + 2 ^ 33)
    && leb q.carry 255
    && proper q.roll
    && eqb q.bids (marks q.roll)
    && are_totals q.demand q.supply
    && is_way q.last
    && small q.pairs

-- "and then 36, when the session is over"; with m = 0 it is over when the searches are
unfoldable pub ended : Party → Bool
ended q = cond (clears q.search) (eqb q.round 36) (finished q.search)

-- How a call was judged, and the record afterwards: the next one where it is accepted, else as it was. A reply's number is `code_of` of
-- its judgement.
unfoldable pub replied : Judgement → (next old : Party) → Reply
replied judgement next old = record { judgement = judgement; party = kept judgement next old }

-- where no session is opened: a record of zeros, which is not sound
abbrev pub blank : Party
blank =
    record {
      n = 0;
      own = 0;
      k = 0;
      bids = 0;
      search = record { which = 0; bracket = record { lo = 0; hi = 0 }; probes = 0; first = 0; spent = 0 };
      round = 0;
      sum = 0;
      carry = 0;
      roll = empty;
      demand = 0;
      supply = 0;
      last = 0;
      pairs = none;
    }
