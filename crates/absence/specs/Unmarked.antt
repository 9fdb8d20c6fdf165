-- What is promised of the words of those who were not present. Assumes nothing.
use Rattle.std.specs.Prelude.{◌≡◌, true, List, ℕ, ◌+◌, ◌*◌, ◌<◌, length, get_or}
use Rattle.presence.specs.Presence.{is_present}
use Rattle.record.specs.declared.Party.{Party}
use Rattle.listening.specs.Listen.{width_of}
use Rattle.hearing.specs.Hear.{hear_reply}

-- "Opening, and refusal 10, read only the marked words": two hearings that differ only in the others give the same. Party i + 1's words stand
-- from place i times as many as each says.
abbrev pub UnmarkedUnread : Type 0
UnmarkedUnread =
    (q : Party) (totals sheets messages messages' present : List ℕ) → length messages ≡ length messages'
    → ((i j : ℕ) → is_present present (i + 1) ≡ true → j < width_of q → get_or messages (j + i * width_of q) 0 ≡ get_or messages' (j + i * width_of q) 0)
    → hear_reply q totals sheets messages' present ≡ hear_reply q totals sheets messages present
