-- The desk, entry by entry: "Let the desk write one entry of one keeper's lent bundle from t words lent for that entry alone." Assumes
-- nothing.
use Rattle.std.specs.Prelude.{Bool, not, ◌&&◌, List, [], ◌∷◌, ℕ, ◌-◌, ◌*◌, leb, take, drop, set, get_or}
use Rattle.fields.specs.Amount.{amounts}
use Rattle.refusal.specs.Judging.{◌⇒◌, judged, kept}
use Rattle.refusal.specs.Refusal.{Judgement}
use Rattle.refusal.specs.declared.Refusal.TheVariants.{OutOfRange, WrongLength}
use Rattle.sharing.specs.Polynomial.{value}
use Rattle.sharing.specs.Scheme.{threshold}
use Rattle.ranges.specs.Sizes.{party, listed, long}
use Rattle.bid.specs.Split.{faults}

-- the entries of a table, and of a bundle, are 1 to 2k
abbrev pub is_entry : (k entry : ℕ) → Bool
is_entry k entry = leb 1 entry && leb entry (2 * k)

-- The refusals of `split_entry`, lowest number first. "Each call is lent the whole table and judges it before writing; refusal 5 reads
-- only its t words. .. an entry outside 1 to 2k is 1."
unfoldable pub split_entry_judgement : (n own k entry : ℕ) (table coins shares : List ℕ) → Judgement
split_entry_judgement n own k entry table coins shares =
    judged
    ((not (party n own && listed k && is_entry k entry) ⇒ OutOfRange)
    ∷ (not (long (2 * k) table && long (threshold n) coins && long (2 * k) shares) ⇒ WrongLength)
    ∷ faults k table coins)

-- what the slice lent for the shares holds afterwards: a party's share of that amount at its place, and else what it held
abbrev pub split_entry_left : (n own k entry : ℕ) (table coins shares : List ℕ) → List ℕ
split_entry_left n own k entry table coins shares =
    kept (split_entry_judgement n own k entry table coins shares)
    (set shares (entry - 1) (value amounts (get_or table (entry - 1) 0 ∷ coins) own)) shares

-- the t words for one entry, of all that are drawn for a bid
abbrev pub entry_coins : (t entry : ℕ) (coins : List ℕ) → List ℕ
entry_coins t entry coins = take t (drop ((entry - 1) * t) coins)

-- "Entry after entry": what the slice holds after these entries, each written with its own t words
unfoldable pub entries_left : (n own k : ℕ) (table coins entries shares : List ℕ) → List ℕ
entries_left n own k table coins [] shares = shares
entries_left n own k table coins (entry ∷ entries) shares =
    entries_left n own k table coins entries (split_entry_left n own k entry table (entry_coins (threshold n) entry coins) shares)
