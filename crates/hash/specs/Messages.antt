-- What a message of the code says.
-- Assumes nothing.
use Rattle.std.specs.Prelude.{◌++◌}
use Rattle.hash.specs.Hash.{Bytes}
use Rattle.hash.specs.declared.message.Message.{Message}

-- its two parts
abbrev pub parts : Message → Bytes × Bytes
parts m = (m.first.now, m.second.now)

-- its bytes
abbrev pub text : Message → Bytes
text m = m.first.now ++ m.second.now
