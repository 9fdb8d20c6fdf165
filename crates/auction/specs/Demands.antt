-- Demands 2 and 3 of whole auctions, as statements about every run. Assumes nothing.
use Rattle.session.specs.Answer.{the_answer}
use Rattle.std.specs.Prelude.{◌≡◌, ◌↔◌, Bool, true, cond, not, ◌&&◌, ℕ, ◌+◌, ◌-◌, ◌*◌, ◌/◌, ◌^◌, ◌≤◌, ◌<◌, min, leb, ltb, eqb, length, take, drop, replicate, Ok, Err}
use mathlib.Core.List.{List, [], ◌∷◌, map, zip, Memᴰ}
use Rattle.ways.specs.Way.{way_of, sheet_size}
use Rattle.kept_pairs.specs.Pairs.{none as no_pairs}
use Rattle.presence.specs.Presence.{is_present}
use Rattle.sharing.specs.Scheme.{threshold}
use Rattle.ranges.specs.Distinct.{Distinct}
use Rattle.ranges.specs.Lists.{member, count}
use Rattle.roll.specs.Marks.{marked}
use Rattle.search.specs.Limit.{most_probes}
use Rattle.search.specs.Search.{promise, Decision, made_in}
use Rattle.comparison.specs.Probe.{SheetCoins, Each}
use Rattle.record.specs.declared.Party.{Party}
use Rattle.refusal.specs.declared.Refusal.TheVariants.{NotCleared}
use Rattle.bid.specs.Table.{most}
use Rattle.filling.specs.Fill.{shared, fill_reply}
use Rattle.filling.specs.Sums.{AllFills}
use Rattle.auction.specs.Auction.{Auction, IsAuction, bidders, wanted, demand, supply, clearing_answer, balanced_answer, price_answer, left_side, right_side, probed, rounds}
use Rattle.auction.specs.Coins.{Coins, InRange}
use Rattle.auction.specs.Desk.{Complete, Desk}
use Rattle.auction.specs.Attendance.{Marks, EnoughPresent, Attendance, Attends}
use Rattle.auction.specs.Call.{Call, fill_call, accepted}
use Rattle.auction.specs.Canonical.{sheets_for, canonical}
use Rattle.auction.specs.Run.{Run, fills}
use Rattle.auction.specs.Received.{Saying, received_bids, hearings, sayings, messages, decisions, verdicts, askings, answers}

unfoldable pub all_accepted : List Call → Bool
all_accepted [] = true
all_accepted (c ∷ cs) = accepted c && all_accepted cs

-- ---- demand 2

-- what a record holds of the two searches, and of the totals at the price, once the session is over
pub record Found (a : Auction) (ds : List Decision) (q : Party) : Type 0 where
  -- "And i is still the report's highest price"; "i and its probes"
  pub highest : q.search.first ≡ clearing_answer a
  pub its_probes : q.search.spent ≡ made_in 1 ds
  -- "If there is such a j", it is hi
  pub lowest : 0 < balanced_answer a → q.search.bracket.hi ≡ balanced_answer a
  pub none : balanced_answer a ≡ 0 → q.search.bracket.hi ≡ clearing_answer a + 1
  -- "When the index m is not 0, the keepers open total demand D and total supply S at m"; with m = 0 nothing is opened
  pub total_demand : q.demand ≡ cond (eqb (price_answer a) 0) 0 (demand a (price_answer a))
  pub total_supply : q.supply ≡ cond (eqb (price_answer a) 0) 0 (supply a (price_answer a))
  -- no share is left in it, so that it may be shown to a fleet
  pub bare : (q.sum ≡ 0) × (q.carry ≡ 0) × (q.pairs ≡ no_pairs)

-- What a fleet is told that asks with the record: "A buyer of amount a gets a times S divided by D, rounded down, and is told the exact
-- remainder"; "16 Not cleared, .. when m is 0".
pub record FleetTold (a : Auction) (q : Party) : Type 0 where
  pub filled : 0 < price_answer a → (amount : ℕ) → amount ≤ most
      → fill_reply q amount ≡ Ok (shared (demand a (price_answer a)) (supply a (price_answer a)) amount)
  pub not_cleared : price_answer a ≡ 0 → (amount : ℕ) → fill_reply q amount ≡ Err NotCleared

-- what party j sees of a run in which it hears so many rounds, if there are so many, and then asks or not
pub record Outcome (a : Auction) (hears : ℕ) (asks : Bool) (l : List Call) (j : ℕ) : Type 0 where
  pub heard : length (hearings j l) ≡ min hears (rounds a)
  -- "a verdict is 1 exactly when total demand there, added in tenths unrounded, is at least total supply", and in the second search exactly
  -- when total supply is at least total demand
  pub promised : verdicts j l ≡ map (λ d. promise (demand a) (supply a) d.which d.index) (decisions j l)
  -- they are those of the two searches, as far as it has heard: from the first probe to the last, where it has heard all
  pub searched : decisions j l ≡ take (length (hearings j l) / a.last) (probed a)
  -- it is asked only where it has heard all, and then at least once if it asks; each answer is the price index with the number of verdicts
  -- heard
  pub asked : ℕ
  pub once_over : ((length (hearings j l) ≡ rounds a) × (asks ≡ true)) ↔ (0 < asked)
  pub cleared : answers j l ≡ replicate asked (the_answer (price_answer a) (length (verdicts j l)))
  -- the record that it asks with has what the searches found, and gives each fleet its hours
  pub found : Each (Found a (decisions j l)) (askings j l)
  pub fleets : Each (FleetTold a) (askings j l)
  -- at most 2P
  pub few : length (verdicts j l) ≤ most_probes a.k
  -- the roll of each record that it hears or asks with marks the bidders of the run, and nobody else
  pub rolled : Each (λ q. (b : ℕ) → marked q.roll b ≡ member b (bidders a)) (askings j l)
  pub rolled_before : Each (λ h. (b : ℕ) → marked h.party.roll b ≡ member b (bidders a)) (hearings j l)

pub record Demand2 (a : Auction) (c : Coins) (marks : Marks) : Type 0 where
  -- no call of the run is refused, but those that stand between, in whichever way the desk writes each bundle and the parties attend
  pub none_refused : (desk : Desk) → Complete a.k desk → (att : Attendance) → Attends a marks att
      → all_accepted (canonical a c marks desk att) ≡ true
  pub outcome : (l : List Call) (run : Run a c marks l) → (j : ℕ) → 1 ≤ j → j ≤ a.n → Outcome a (run.attendance.hears j) (run.attendance.asks j) l j
  -- every fleet that asks, asks with a record that a party asks with, and so is told right
  pub fleets : (l : List Call) → Run a c marks l → (q : Party) (amount : ℕ) → Memᴰ (fill_call q amount) (fills l) → FleetTold a q
  -- supply is at most demand at the price, so that 11 stops nobody; over all bids the fills and remainders come to D times S
  pub covered : 0 < price_answer a → supply a (price_answer a) ≤ demand a (price_answer a)
  pub shared_out : 0 < price_answer a → AllFills (demand a (price_answer a)) (supply a (price_answer a)) (wanted a (price_answer a))

-- ---- demand 3

-- "two whole auctions that agree in number of keepers, number of listed prices, .. and clearing answer"; "Equal number of bids becomes
-- equal rolls, in order of entry"; "Privacy is promised when both i and j agree"; "must now agree in D and S too", where they are opened
pub record Alike (a b : Auction) : Type 0 where
  pub parties : b.n ≡ a.n
  pub prices : b.k ≡ a.k
  -- the way of a session is public
  pub way : b.last ≡ a.last
  pub bidders : bidders b ≡ bidders a
  pub highest : clearing_answer b ≡ clearing_answer a
  pub lowest : balanced_answer b ≡ balanced_answer a
  pub total_demand : 0 < price_answer a → demand b (price_answer a) ≡ demand a (price_answer a)
  pub total_supply : 0 < price_answer a → supply b (price_answer a) ≡ supply a (price_answer a)

-- "any t keepers"
pub record Pool (n : ℕ) (pool : List ℕ) : Type 0 where
  pub parties : Distinct n pool
  pub many : length pool ≡ threshold n

-- The mask stays "within 0 to 2^58 - 1 when moved .. by the second's surplus (demand minus supply) minus the first's", as a whole number;
-- "with supply minus demand moving the masks of the second search"
unfoldable pub stays : (a b : Auction) (which i mask : ℕ) → Bool
stays a b which i mask =
    leb (left_side a which i + right_side b which i) (mask + left_side b which i + right_side a which i)
    && ltb (mask + left_side b which i + right_side a which i) (2 ^ 58 + (left_side a which i + right_side b which i))

-- at each probe
abbrev pub Stay : (a b : Auction) → Coins → Type 0
Stay a b c = Each (λ s. stays a b s.0.which s.0.index s.1.mask ≡ true) (zip (probed a) c.sheets)

-- the same coins, but for the masks
abbrev pub remasked : (mask : ℕ) → SheetCoins → SheetCoins
remasked mask s = record { mask = mask; of_mask = s.of_mask; of_bits = s.of_bits; triples = s.triples }

pub record ButMasks (c d : Coins) : Type 0 where
  pub bids : d.bids ≡ c.bids
  pub sheets : map (remasked 0) d.sheets ≡ map (remasked 0) c.sheets

-- "Unused sheets are the lent ones after those of the probes made"
abbrev pub unused : Auction → Coins → (j : ℕ) → List ℕ
unused a c j = drop (sheet_size (way_of a.last) * length (probed a)) (sheets_for a c j)

-- one list is the other as far as both go
abbrev pub AsFar : {A : Type 0} → List A → List A → Type 0
AsFar [] ys = Unit {0}
AsFar (x ∷ xs) [] = Unit {0}
AsFar (x ∷ xs) (y ∷ ys) = (y ≡ x) × AsFar xs ys

-- the words that party j says in a round, where it says one in both lists
abbrev pub SaidAlike : (round j : ℕ) → List Call → List Call → Type 0
SaidAlike round j l m =
    (x y : Saying) → Memᴰ x (sayings j l) → Memᴰ y (sayings j m) → x.round ≡ round → y.round ≡ round → y.words ≡ x.words

-- What the lists of calls l and m have in common, with the coins c and d: "the same shares, .. the same unused sheets, .. the same words ..,
-- round by round, the same verdicts and the same number of probes". The pool's sheets are what the dealer writes for it, whether it hears a
-- round or not. Words are "the words of those present", as they are said; and with the verdicts and the answers what each party hears and is
-- told of them, as far as it goes in both.
pub record Same (a b : Auction) (pool : List ℕ) (c d : Coins) (marks : Marks) (l m : List Call) : Type 0 where
  pub pool_bids : (j : ℕ) → Memᴰ j pool → received_bids j m ≡ received_bids j l
  pub pool_sheets : (j : ℕ) → Memᴰ j pool → sheets_for b d j ≡ sheets_for a c j
  pub left : (j : ℕ) → 1 ≤ j → j ≤ a.n → unused b d j ≡ unused a c j
  pub words : (round j : ℕ) → 1 ≤ j → j ≤ a.n → is_present (marks round) j ≡ true → SaidAlike round j l m
  pub words_heard : (j : ℕ) → 1 ≤ j → j ≤ a.n → AsFar (messages j l) (messages j m)
  pub verdicts_heard : (j : ℕ) → 1 ≤ j → j ≤ a.n → AsFar (verdicts j l) (verdicts j m)
  pub answered : (j : ℕ) → 1 ≤ j → j ≤ a.n → AsFar (answers j l) (answers j m)
  pub probes : probed b ≡ probed a

-- "Then exactly one set of draws of the second does all of this": these coins with any marks, which are "the same .. in both compared
-- auctions", in every pair of runs; and any coins that do it in one pair of runs are these. Who hears late or never need not be the same in
-- both. A word that somebody says who is not present is nobody's to use, but may be seen: it is the same too.
pub record Matched (a b : Auction) (pool : List ℕ) (c : Coins) : Type 0 where
  pub coins : Coins
  pub ranged : InRange b coins
  pub same : (marks : Marks) → EnoughPresent a marks → (l m : List Call) → Run a c marks l → Run b coins marks m
      → Same a b pool c coins marks l m
  pub said : (marks : Marks) → EnoughPresent a marks → (l m : List Call) → Run a c marks l → Run b coins marks m
      → (round j : ℕ) → 1 ≤ j → j ≤ a.n → SaidAlike round j l m
  pub only : (other : Coins) → InRange b other → (marks : Marks) → EnoughPresent a marks → (l m : List Call) → Run a c marks l
      → Run b other marks m → Same a b pool c other marks l m → other ≡ coins

pub record Demand3 : Type 0 where
  pub matched : (a b : Auction) → IsAuction a → IsAuction b → Alike a b → (pool : List ℕ) → Pool a.n pool
      → (c : Coins) → InRange a c → Stay a b c → Matched a b pool c
  -- "At each probe at most 2^33 - 2 of the 2^58 masks fall outside when so moved."
  pub few_fall : (a b : Auction) → IsAuction a → IsAuction b → Alike a b → (which i : ℕ)
      → count (λ mask. not (stays a b which i mask)) (2 ^ 58) ≤ 2 ^ 33 - 2
  -- for every two auctions that agree as asked there are draws of the first whose masks stay; and any draws of the first are such, but for
  -- their masks
  pub some_stay : (a b : Auction) → IsAuction a → IsAuction b → Alike a b → (c : Coins) × InRange a c × Stay a b c
  pub others_free : (a b : Auction) → IsAuction a → IsAuction b → Alike a b → (c : Coins) → InRange a c
      → (d : Coins) × InRange a d × Stay a b d × ButMasks c d
  -- every auction with coins in range has a run, in whichever way the desk writes each bundle, with whatever marks, and in whichever way the
  -- parties attend
  pub runs : (a : Auction) → IsAuction a → (c : Coins) → InRange a c → (marks : Marks) → EnoughPresent a marks
      → (desk : Desk) → Complete a.k desk → (att : Attendance) → Attends a marks att → Run a c marks (canonical a c marks desk att)
