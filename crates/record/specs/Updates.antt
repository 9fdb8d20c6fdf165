-- What the calls make of a record. Of each, proofs/Updates says what it leaves as it was, and when the record stays sound. Assumes nothing.
use Rattle.std.specs.Prelude.{cond, ℕ, ◌+◌, eqb}
use Rattle.search.specs.declared.searches.Search.{Search}
use Rattle.search.specs.Searches.{first_search, clears}
use Rattle.roll.specs.Marks.{empty, mark}
use Rattle.kept_pairs.specs.declared.Pairs.{Pairs}
use Rattle.kept_pairs.specs.Pairs.{none}
use Rattle.record.specs.declared.Party.{Party}

-- the record that a session starts with: "n, own number, k, bids 0, lo 0, hi k + 1, probes done 0, round 1, T 0, carry share 0", the first
-- search on, nobody on the roll, no total opened and no pair kept
unfoldable pub fresh : (n own k last : ℕ) → Party
fresh n own k last =
    record {
      n = n;
      own = own;
      k = k;
      bids = 0;
      search = first_search k;
      round = 1;
      sum = 0;
      carry = 0;
      roll = empty;
      demand = 0;
      supply = 0;
      last = last;
      pairs = none;
    }

-- one bid more is held, and its bidder is in
unfoldable pub entered : Party → (bidder : ℕ) → Party
entered q bidder =
    record {
      n = q.n;
      own = q.own;
      k = q.k;
      bids = q.bids + 1;
      search = q.search;
      round = q.round;
      sum = q.sum;
      carry = q.carry;
      roll = mark q.roll bidder;
      demand = q.demand;
      supply = q.supply;
      last = q.last;
      pairs = q.pairs;
    }

-- the probe goes on: a round, T, the carry's share, and the pair shares that are kept
unfoldable pub in_round : Party → (round sum carry : ℕ) → Pairs → Party
in_round q round sum carry pairs =
    record {
      n = q.n;
      own = q.own;
      k = q.k;
      bids = q.bids;
      search = q.search;
      round = round;
      sum = sum;
      carry = carry;
      roll = q.roll;
      demand = q.demand;
      supply = q.supply;
      last = q.last;
      pairs = pairs;
    }

-- a verdict moved the searches: "round, T and carry return to 1, 0, 0", and the kept pair shares to 0; where they have ended with m not 0,
-- "the keepers open total demand D and total supply S at m, in rounds 34 and 35"
unfoldable pub decided : Party → Search → Party
decided q s =
    record {
      n = q.n;
      own = q.own;
      k = q.k;
      bids = q.bids;
      search = s;
      round = cond (clears s) 34 1;
      sum = 0;
      carry = 0;
      roll = q.roll;
      demand = q.demand;
      supply = q.supply;
      last = q.last;
      pairs = none;
    }

-- "The record gains D and S": a total is opened, in round 34 demand, in round 35 supply
unfoldable pub totalled : Party → (total : ℕ) → Party
totalled q total =
    record {
      n = q.n;
      own = q.own;
      k = q.k;
      bids = q.bids;
      search = q.search;
      round = q.round + 1;
      sum = q.sum;
      carry = q.carry;
      roll = q.roll;
      demand = cond (eqb q.round 34) total q.demand;
      supply = cond (eqb q.round 34) q.supply total;
      last = q.last;
      pairs = q.pairs;
    }
