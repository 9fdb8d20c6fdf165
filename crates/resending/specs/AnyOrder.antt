-- A bid that is sent again comes later than it would have, and not at every party. What is promised of bids that come in another
-- order. Assumes nothing.
use Rattle.std.specs.Prelude.{◌≡◌, List, [], ◌∷◌, ℕ, Ok}
use Rattle.ranges.specs.Orders.{Shuffle}
use Rattle.record.specs.declared.Party.{Party}
use Rattle.session.specs.Add.{add_judgement, add_reply, add_left}

-- a bid as a party gets it: whose it is, and the party's shares
abbrev pub BidFor : Type 0
BidFor = ℕ × List ℕ

-- what a party holds: its record and its totals
abbrev pub Account : Type 0
Account = Party × List ℕ

-- after a bid, and after all of these
unfoldable pub with_bid : BidFor → Account → Account
with_bid b h = ((add_reply h.0 h.1 b.0 b.1).party, add_left h.0 h.1 b.0 b.1)

unfoldable pub with_bids : List BidFor → Account → Account
with_bids [] h = h
with_bids (b ∷ bs) h = with_bids bs (with_bid b h)

-- each is accepted in its turn
abbrev pub AllAccepted : List BidFor → Account → Type 0
AllAccepted [] h = Unit {0}
AllAccepted (b ∷ bs) h = (add_judgement h.0 h.1 b.0 b.1 ≡ Ok tt) × AllAccepted bs (with_bid b h)

-- bids that are accepted in one order are accepted in any other, and leave the same record and totals
abbrev pub AnyOrder : Type 0
AnyOrder =
    (h : Account) (bids others : List BidFor) → Shuffle bids others → AllAccepted bids h
    → AllAccepted others h × (with_bids others h ≡ with_bids bids h)
