-- `byte_share` meets its contract. Assumes nothing.
use native.Mathlib.Omega.{arith}
use Rattle.message.proofs.Sheets.{byte_at}
use Rattle.message.proofs.sheet.Sheet.byte_share.Goals as goal

pub byte_at-requires : goal.byte_at-requires
byte_at-requires c = (omega arith, byte_at c.args.self.now.words.now c.args.at c.args.self.now.bytes c.requires.0 (omega arith))
