-- The bank of the two kinds that are built. Assumes nothing.
use Rattle.std.specs.Prelude.{cond, ◌||◌, Some, None, ◌==◌}
use Rattle.item.specs.Meaning.{Bank}
use Rattle.item.specs.Buffer.{buffer}
use Rattle.item.specs.Intent.{free_intent}

-- buffers, and free intents under their two numbers
abbrev pub built : Bank
built type = cond (type == 0x123C) (Some buffer) (cond (type == 0x1236 || type == 0x1237) (Some free_intent) None)
