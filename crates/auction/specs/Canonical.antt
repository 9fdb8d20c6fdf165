-- The list of calls as document 01 tells it, with either way of writing a bundle, and whoever is present: each call is given what the
-- calls before it returned, wrote, said or left, by the very definitions that the contracts cite. Assumes nothing.
use Rattle.std.specs.Prelude.{Bool, true, false, cond, ◌&&◌, ◌||◌, ℕ, zero, suc, ◌+◌, ◌*◌, leb, ltb, replicate}
use mathlib.Core.List.{List, [], ◌∷◌, ◌++◌, map, flatten, zip}
use Rattle.ranges.specs.Lists.{from}
use Rattle.ways.specs.Way.{way_of, sheet_size}
use Rattle.sharing.specs.Scheme.{threshold, points}
use Rattle.presence.specs.Presence.{is_present}
use Rattle.search.specs.Limit.{most_probes}
use Rattle.comparison.specs.Probe.{SheetCoins}
use Rattle.bid.specs.Split.{split_left}
use Rattle.bid.specs.Entry.{split_entry_left, entry_coins, entries_left}
use Rattle.dealer.specs.Deal.{deal_left}
use Rattle.record.specs.declared.Party.{Party}
use Rattle.record.specs.Record.{ended}
use Rattle.session.specs.Open.{open_reply, open_left}
use Rattle.session.specs.Add.{add_reply, add_left}
use Rattle.saying.specs.Say.{say_left}
use Rattle.listening.specs.Listen.{width_of}
use Rattle.hearing.specs.Hear.{hear_reply}
use Rattle.auction.specs.Auction.{Auction}
use Rattle.auction.specs.Coins.{Coins, DrawnBid, flat, coin_words, coin_bytes}
use Rattle.auction.specs.Desk.{Way, whole, by_entries, Desk}
use Rattle.auction.specs.Attendance.{Marks, Attendance}
use Rattle.auction.specs.Call.{Call, open_call, split_call, split_entry_call, deal_call, add_call, say_call, hear_call, answer_call}

-- what a party says: the words that a slice as long as stated holds after the saying
abbrev pub lent_for : Party → List ℕ
lent_for q = replicate (width_of q) 0

unfoldable pub words : (q : Party) (totals sheets : List ℕ) → List ℕ
words q totals sheets = say_left q totals sheets (lent_for q)

-- "Each of these calls for a keeper gets the book and record that the last of them for it returned or left"
pub record Seat : Type 0 where
  pub party : Party
  pub totals : List ℕ
  pub sheets : List ℕ

unfoldable pub all_over : List Seat → Bool
all_over [] = true
all_over (s ∷ ss) = ended s.party && all_over ss

-- 2P probes of 33 or 7 rounds, and two rounds for the totals: by then every session is over
abbrev pub enough_rounds : Auction → ℕ
enough_rounds a = a.last * most_probes a.k + 2

module _ (a : Auction) where
  -- a slice of 2k words, to be written
  abbrev pub zeros : List ℕ
  zeros = replicate (2 * a.k) 0

  -- "First, n sessions are opened, each with its own book and record."
  unfoldable pub seated : ℕ → Seat
  seated j =
      record {
        party = (open_reply a.n j a.k a.last zeros).party;
        totals = open_left a.n j a.k a.last zeros;
        sheets = [];
      }

  -- a bundle written "entry after entry", each call lent what the last one left
  unfoldable pub entry_calls : (own : ℕ) (table coins order lent : List ℕ) → List Call
  entry_calls own table coins [] lent = []
  entry_calls own table coins (entry ∷ order) lent =
      let words = entry_coins (threshold a.n) entry coins in
      split_entry_call a.n own a.k entry table words lent
      ∷ entry_calls own table coins order (split_entry_left a.n own a.k entry table words lent)

  -- the calls that write a bundle in either way, and what the slice then holds
  unfoldable pub bundle_calls : (own : ℕ) (table coins : List ℕ) → Way → List Call
  bundle_calls own table coins whole = split_call a.n own a.k table coins zeros ∷ []
  bundle_calls own table coins (by_entries order lent) = entry_calls own table coins order lent

  unfoldable pub bundle : (own : ℕ) (table coins : List ℕ) → Way → List ℕ
  bundle own table coins whole = split_left a.n own a.k table coins zeros
  bundle own table coins (by_entries order lent) = entries_left a.n own a.k table coins order lent

module _ (a : Auction) (desk : Desk) where
  -- "For each bid in turn the desk writes every keeper's bundle from the same draws, and each keeper adds its own."
  unfoldable pub splits_for : DrawnBid → Seat → List Call
  splits_for b s = bundle_calls a s.party.own b.0.table (flat b.1) (desk b.0.bidder s.party.own)

  unfoldable pub shares_for : DrawnBid → Seat → List ℕ
  shares_for b s = bundle a s.party.own b.0.table (flat b.1) (desk b.0.bidder s.party.own)

  unfoldable pub add_by : DrawnBid → Seat → Call
  add_by b s = add_call s.party s.totals b.0.bidder (shares_for b s)

  unfoldable pub after_adding : DrawnBid → Seat → Seat
  after_adding b s =
      record {
        party = (add_reply s.party s.totals b.0.bidder (shares_for b s)).party;
        totals = add_left s.party s.totals b.0.bidder (shares_for b s);
        sheets = s.sheets;
      }

-- "The dealer writes every keeper's sheets, from one set of draws per probe."
unfoldable pub sheet_for : Auction → (own : ℕ) → SheetCoins → List ℕ
sheet_for a own k = deal_left a.n own a.last (coin_words k) (coin_bytes k) (replicate (sheet_size (way_of a.last)) 0)

unfoldable pub sheets_for : Auction → Coins → (own : ℕ) → List ℕ
sheets_for a c own = flat (map (sheet_for a own) c.sheets)

module _ (a : Auction) (c : Coins) where
  unfoldable pub deal_for : Seat → SheetCoins → Call
  deal_for s k = deal_call a.n s.party.own a.last (coin_words k) (coin_bytes k) (replicate (sheet_size (way_of a.last)) 0)

  unfoldable pub deals : List Seat → List Call
  deals [] = []
  deals (s ∷ ss) = map (deal_for s) c.sheets ++ deals ss

  unfoldable pub after_dealing : Seat → Seat
  after_dealing s = record { party = s.party; totals = s.totals; sheets = sheets_for a c s.party.own }

-- "Then, round after round, each keeper says its words and all go to each keeper's hearing"; "Hearing shall take, besides the n
-- words, n marks of who was present"
unfoldable pub say_by : Seat → Call
say_by s = say_call s.party s.totals s.sheets (lent_for s.party)

unfoldable pub words_by : Seat → List ℕ
words_by s = words s.party s.totals s.sheets

unfoldable pub hear_by : (messages present : List ℕ) → Seat → Call
hear_by messages present s = hear_call s.party s.totals s.sheets messages present

unfoldable pub after_hearing : (messages present : List ℕ) → Seat → Seat
after_hearing messages present s =
    record {
      party = (hear_reply s.party s.totals s.sheets messages present).party;
      totals = s.totals;
      sheets = s.sheets;
    }

unfoldable pub ask : Seat → Call
ask s = answer_call s.party

-- a call, if it is made
abbrev pub where_so : Bool → Call → List Call
where_so made c = cond made (c ∷ []) []

-- The rounds. A seat is what its party has where it has heard every round before; a party that has not makes no call.
module _ (marks : Marks) (att : Attendance) where
  -- who was present, and whoever else likes to
  abbrev pub says_word : (round own : ℕ) → Bool
  says_word round own = leb round (att.hears own) && (is_present (marks round) own || att.speaks own round)

  unfoldable pub say_in : (round : ℕ) → Seat → List Call
  say_in round s = where_so (says_word round s.party.own) (say_by s)

  -- anything, as many words as a party says
  abbrev pub anything : (round own : ℕ) → Seat → List ℕ
  anything round own s = map (att.elsewhere own round s.party.own) (from 0 (width_of s.party))

  -- of those who were present what they said, in the other places anything: "Heard words stand keeper by keeper"
  unfoldable pub words_for : (round own : ℕ) → List Seat → List ℕ
  words_for round own ss =
      flat (map (λ s. cond (is_present (marks round) s.party.own) (words_by s) (anything round own s)) ss)

  unfoldable pub hear_round : (round : ℕ) → List Seat → Seat → Call
  hear_round round ss s = hear_by (words_for round s.party.own ss) (marks round) s

  unfoldable pub hear_in : (round : ℕ) → List Seat → Seat → List Call
  hear_in round ss s = where_so (ltb round (att.hears s.party.own)) (hear_round round ss s)

  unfoldable pub after_round : (round : ℕ) → List Seat → Seat → Seat
  after_round round ss s = after_hearing (words_for round s.party.own ss) (marks round) s

  -- who has heard all the rounds, and asks
  abbrev pub asks_then : (round own : ℕ) → Bool
  asks_then round own = leb round (att.hears own) && att.asks own

  unfoldable pub ask_in : (round : ℕ) → Seat → List Call
  ask_in round s = where_so (asks_then round s.party.own) (ask s)

  -- ".. until over; then each is asked for the answer", if it likes
  unfoldable pub from_rounds : (fuel round : ℕ) → List Seat → List Call
  from_rounds zero round ss = flatten (map (ask_in round) ss)
  from_rounds (suc fuel) round ss =
      elim (all_over ss) [
        | true ↦ flatten (map (ask_in round) ss)
        | false ↦
            flatten (map (say_in round) ss)
            ++ (flatten (map (hear_in round ss) ss) ++ from_rounds fuel (suc round) (map (after_round round ss) ss))
      ]

module _ (a : Auction) (c : Coins) (marks : Marks) (desk : Desk) (att : Attendance) where
  unfoldable pub from_bids : List DrawnBid → List Seat → List Call
  from_bids [] ss = deals a c ss ++ from_rounds marks att (enough_rounds a) 0 (map (after_dealing a c) ss)
  from_bids (b ∷ bs) ss =
      flatten (map (splits_for a desk b) ss) ++ (map (add_by a desk b) ss ++ from_bids bs (map (after_adding a desk b) ss))

  unfoldable pub canonical : List Call
  canonical =
      map (λ j. open_call a.n j a.k a.last (zeros a)) (points a.n)
      ++ from_bids (zip a.bids c.bids) (map (seated a) (points a.n))
