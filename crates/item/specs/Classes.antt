-- The class of a meaning: what an item asks, without the bytes that it gives. Assumes nothing.
use Rattle.item.specs.Meaning.{Meaning, malformed, patch, cancel, opens, closes}
use Rattle.item.specs.declared.class.Class.{Class}
use Rattle.item.specs.declared.class.Class.TheVariants.{Malformed, Patch, Cancel, Open, Close}

abbrev pub class_of : Meaning → Class
class_of malformed = Malformed
class_of (patch k c) = Patch k
class_of (cancel k) = Cancel k
class_of (opens i) = Open i
class_of (closes i) = Close i
