-- A record in a lent slice: "n, own number, k, bids, lo, hi, probes done, round, T, carry share", a word each, then "a roll of who is in",
-- 16 words, and then what "The record gains": "which search is on and, 0 until the first ends, i and its probes", and "D and S". Assumes
-- nothing.
use Rattle.std.specs.Prelude.{Bool, cond, not, List, [], ◌∷◌, ◌++◌, map, ℕ, get_or}
use Rattle.refusal.specs.Refusal.{number_of, code_of}
use Rattle.refusal.specs.Judging.{◌⇒◌, judged, then, kept}
use Rattle.refusal.specs.Refusal.{Judgement}
use Rattle.refusal.specs.declared.Refusal.TheVariants.{OutOfRange, WrongLength}
use Rattle.ranges.specs.Lists.{from}
use Rattle.ranges.specs.Sizes.{long}
use Rattle.record.specs.declared.Party.{Party}
use Rattle.record.specs.declared.Reply.{Reply}

abbrev pub record_size : ℕ
record_size = 64

-- which search is on, what the first gave with its probes, the totals at the price, and the last round of a probe
abbrev pub later_words : Party → List ℕ
later_words q = q.search.which ∷ q.search.first ∷ q.search.spent ∷ q.demand ∷ q.supply ∷ q.last ∷ []

unfoldable pub words_of : Party → List ℕ
words_of q =
    q.n
    ∷ q.own
    ∷ q.k
    ∷ q.bids
    ∷ q.search.bracket.lo
    ∷ q.search.bracket.hi
    ∷ q.search.probes
    ∷ q.round
    ∷ q.sum
    ∷ q.carry
    ∷ (q.roll.words ++ (later_words q ++ q.pairs.words))

-- the record that 64 words say
unfoldable pub party_of : List ℕ → Party
party_of words =
    record {
      n = get_or words 0 0;
      own = get_or words 1 0;
      k = get_or words 2 0;
      bids = get_or words 3 0;
      search = record {
        which = get_or words 26 0;
        bracket = record { lo = get_or words 4 0; hi = get_or words 5 0 };
        probes = get_or words 6 0;
        first = get_or words 27 0;
        spent = get_or words 28 0;
      };
      round = get_or words 7 0;
      sum = get_or words 8 0;
      carry = get_or words 9 0;
      roll = record { words = map (λ i. get_or words i 0) (from 10 16) };
      demand = get_or words 29 0;
      supply = get_or words 30 0;
      last = get_or words 31 0;
      pairs = record { words = map (λ i. get_or words i 0) (from 32 32) };
    }

-- a slice of any other length is no record
unfoldable pub record_judgement : List ℕ → Judgement
record_judgement words = judged ((not (long record_size words) ⇒ WrongLength) ∷ [])

-- what a call gives where a record is lent, and what stands there otherwise
abbrev pub on_record : {A : Type 0} (words : List ℕ) (given otherwise : A) → A
on_record words given otherwise = kept (record_judgement words) given otherwise

-- the number of a call of which nothing is judged without a record
abbrev pub number_on : (words : List ℕ) (number : ℕ) → ℕ
number_on words number = on_record words number (number_of WrongLength)

-- The code of a call with something to judge that needs no record. "The lowest number that applies is given": 1 where that is out of range;
-- then 2 where no record is lent; then the rest.
unfoldable pub code_on : (words : List ℕ) (in_range : Bool) (rest : Judgement) → ℕ
code_on words in_range rest = code_of (then (judged ((not in_range ⇒ OutOfRange) ∷ [])) (then (record_judgement words) rest))

-- and that code where none is lent
abbrev pub code_without : (in_range : Bool) → ℕ
code_without in_range = cond in_range (number_of WrongLength) (number_of OutOfRange)

-- what a reply leaves in the record's slice
abbrev pub stored : Reply → List ℕ → List ℕ
stored reply words = kept reply.judgement (words_of reply.party) words
