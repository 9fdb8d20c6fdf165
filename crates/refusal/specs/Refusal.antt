-- "The refusal list": each refusal's number, with the paper's word for it. Assumes nothing.
use Rattle.std.specs.Prelude.{ℕ, Result, Ok, Err, ⊤}
use Rattle.refusal.specs.declared.Refusal.{Refusal}
use Rattle.refusal.specs.declared.Refusal.TheVariants.{OutOfRange, WrongLength, OutOfTurn, TooManyBids, CoinOutOfRange, AmountTooLarge, NotMonotone, ShareOutOfRange, OwnMessageDiffers, Inconsistent, SumOutOfRange, VerdictNotBit, Malformed, AlreadyEntered, TooFewPresent, NotCleared, PageTooShort}

abbrev pub number_of : Refusal → ℕ
-- off the list
number_of OutOfRange = 1
-- short sheet
number_of WrongLength = 2
-- out of turn
number_of OutOfTurn = 3
-- full house: the rehearsal's alone, since a roll with 1,000 marks has every bidder
number_of TooManyBids = 4
-- worn draw
number_of CoinOutOfRange = 5
-- too many hours
number_of AmountTooLarge = 6
-- bent table
number_of NotMonotone = 7
-- foreign share
number_of ShareOutOfRange = 8
-- not my word
number_of OwnMessageDiffers = 9
-- crooked round
number_of Inconsistent = 10
-- wild sum
number_of SumOutOfRange = 11
-- split verdict
number_of VerdictNotBit = 12
-- torn file: "rehearsal only" until the settlement page, "a page that no entries lay out to is 13"
number_of Malformed = 13
-- already in
number_of AlreadyEntered = 14
-- too few
number_of TooFewPresent = 15
-- not cleared
number_of NotCleared = 16
-- page too short
number_of PageTooShort = 17

-- a call is accepted, or refused for a reason
abbrev pub Judgement : Type 0
Judgement = Result ⊤ Refusal

-- 0 for a call that was accepted
abbrev pub code_of : Judgement → ℕ
code_of (Ok tt) = 0
code_of (Err r) = number_of r
