-- The settlement page: "Lay it out in lines of exactly 60 bytes before the newline." Assumes nothing.
use Rattle.std.specs.Prelude.{Bool, true, cond, ◌&&◌, List, [], ◌∷◌, ◌++◌, ℕ, suc, ◌+◌, ◌-◌, ◌*◌, ◌/◌, ◌%◌, leb, eqb, length, replicate}
use Rattle.decimal.specs.Decimal.{decimal}
use Rattle.ranges.specs.Sizes.{highest_price}
use Rattle.bid.specs.Table.{most}

-- "all right-aligned with spaces"
unfoldable pub right : (width : ℕ) → List ℕ → List ℕ
right width text = replicate (width - length text) 32 ++ text

-- a number of tenths: how many are whole, a mark, and how many are left, as one digit
unfoldable pub in_tenths : (mark n : ℕ) → List ℕ
in_tenths mark n = decimal (n / 10) ++ (mark ∷ (48 + n % 10) ∷ [])

-- "Hours show one decimal"
abbrev pub hours_shown : ℕ → List ℕ
hours_shown tenths = in_tenths 46 tenths

-- "Pence are tenths got times price, divided by 10, then a space and the remainder as one digit."
abbrev pub pence_due : (price got : ℕ) → List ℕ
pence_due price got = in_tenths 32 (got * price)

-- "Entries (4,000 amounts) give wanted, then got, for each bidder number, buy before sell": pair 0 is bidder 1's buy, pair 1 bidder 1's
-- sell, pair 2 bidder 2's buy
abbrev pub bidder : (pair : ℕ) → ℕ
bidder pair = pair / 2 + 1

-- "Side is `buy` or `sell`."
abbrev pub side : (pair : ℕ) → List ℕ
side pair = cond (eqb (pair % 2) 0) (98 ∷ 117 ∷ 121 ∷ []) (115 ∷ 101 ∷ 108 ∷ 108 ∷ [])

-- "Bidder number has 4 columns, side 6, hours wanted 12, hours got 12, pence due 26"
unfoldable pub title : (pair : ℕ) → List ℕ
title pair = right 4 (decimal (bidder pair)) ++ right 6 (side pair)

unfoldable pub amounts : (price wanted got : ℕ) → List ℕ
amounts price wanted got = right 12 (hours_shown wanted) ++ (right 12 (hours_shown got) ++ (right 26 (pence_due price got) ++ (10 ∷ [])))

abbrev pub line : (price pair wanted got : ℕ) → List ℕ
line price pair wanted got = title pair ++ amounts price wanted got

-- "leaving out what wants 0"
unfoldable pub line_of : (price pair wanted got : ℕ) → List ℕ
line_of price pair wanted got = cond (eqb wanted 0) [] (line price pair wanted got)

-- from a pair on: "lines go likewise". Entries come in pairs: a number alone has no line.
unfoldable pub lines : (price pair : ℕ) → (entries : List ℕ) → List ℕ
lines price pair [] = []
lines price pair (x ∷ []) = []
lines price pair (wanted ∷ got ∷ more) = line_of price pair wanted got ++ lines price (suc pair) more

abbrev pub layout : (price : ℕ) → (entries : List ℕ) → List ℕ
layout price entries = lines price 0 entries

-- ---- what a page can be laid out of

abbrev pub entries_size : ℕ
entries_size = 4000

-- a price of 1 to 1,000,000 pence
abbrev pub is_price : ℕ → Bool
is_price price = leb 1 price && leb price highest_price

-- an amount is at most 4,194,303, and nobody gets more than is wanted
abbrev pub in_range : (wanted got : ℕ) → Bool
in_range wanted got = leb wanted most && leb got wanted

unfoldable pub all_in_range : (entries : List ℕ) → Bool
all_in_range [] = true
all_in_range (x ∷ []) = true
all_in_range (wanted ∷ got ∷ more) = in_range wanted got && all_in_range more
