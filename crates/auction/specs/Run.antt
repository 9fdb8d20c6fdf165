-- Runs: "Any other order in which every call is given the same is a run too, and saying or asking may be repeated. .. Refused calls,
-- on any record and buffers, may stand anywhere between". Assumes nothing.
use Rattle.std.specs.Prelude.{Bool, cond, ◌&&◌, ℕ}
use mathlib.Core.List.{List, [], ◌∷◌, Memᴰ}
use Rattle.ranges.specs.Orders.{Shuffle}
use Rattle.record.specs.declared.Party.{Party}
use Rattle.auction.specs.Auction.{Auction}
use Rattle.auction.specs.Coins.{Coins}
use Rattle.auction.specs.Desk.{Complete, Desk}
use Rattle.auction.specs.Attendance.{Marks, Attendance, Attends}
use Rattle.auction.specs.Call.{Call, say_call, answer_call, fill_call, accepted, whose, of_party, of_service, of_fleet, given}
use Rattle.auction.specs.Canonical.{canonical}

-- the calls that pass a test, with what they were given
unfoldable pub select : (Call → Bool) → List Call → List Call
select test [] = []
select test (c ∷ cs) = cond (test c) (given c ∷ select test cs) (select test cs)

-- party j's own calls of a list, in order, refused ones left out; and those of the bidders and the dealer
abbrev pub own : ℕ → List Call → List Call
own j l = select (λ c. accepted c && of_party j (whose c)) l

abbrev pub services : List Call → List Call
services l = select (λ c. accepted c && of_service (whose c)) l

-- those by which fleets learn their hours
abbrev pub fills : List Call → List Call
fills l = select (λ c. accepted c && of_fleet (whose c)) l

-- the second list is the first, in which a saying or an asking may be repeated
pub data Repeats : List Call → List Call → Type 0 where
  end : Repeats [] []
  next : {c : Call} {cs ds : List Call} → Repeats cs ds → Repeats (c ∷ cs) (c ∷ ds)
  say_again : {q : Party} {totals sheets said : List ℕ} {cs ds : List Call}
      → Repeats (say_call q totals sheets said ∷ cs) ds → Repeats (say_call q totals sheets said ∷ cs) (say_call q totals sheets said ∷ ds)
  ask_again : {q : Party} {cs ds : List Call} → Repeats (answer_call q ∷ cs) ds → Repeats (answer_call q ∷ cs) (answer_call q ∷ ds)

-- The desk writes each bundle in one of the two ways, and each party attends as it can. Each party's calls are those of the canonical list,
-- in its order, so that each is given the record and totals that the last returned or left; the bidders' and the dealer's are those of the
-- canonical list, in any order. Whose turn it is between parties is free, so that a party may hear a round long after the others. A fleet asks
-- for its hours with a record with which a party asks for the answer, of whatever amount, and as often as it likes.
pub record Run (a : Auction) (c : Coins) (marks : Marks) (l : List Call) : Type 0 where
  pub desk : Desk
  pub complete : Complete a.k desk
  pub attendance : Attendance
  pub attends : Attends a marks attendance
  pub parties : (j : ℕ) → Repeats (own j (canonical a c marks desk attendance)) (own j l)
  pub others : Shuffle (services (canonical a c marks desk attendance)) (services l)
  pub fleets : (q : Party) (amount : ℕ) → Memᴰ (fill_call q amount) (fills l)
      → (j : ℕ) × Memᴰ (answer_call q) (own j (canonical a c marks desk attendance))
