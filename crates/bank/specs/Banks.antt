-- Banks of one kind and of two banks, and what a bank says of an item. Assumes nothing.
use Rattle.std.specs.Prelude.{ℕ, Bool, cond, List, is_some, Some, None, Option}
use Rattle.item.specs.Meaning.{Meaning, malformed, Kind, Bank}
use Rattle.item.specs.Classes.{class_of}
use Rattle.item.specs.declared.class.Class.{Class}

-- one kind, under its type numbers
abbrev pub one_kind : (ℕ → Bool) → Kind → Bank
one_kind has kind type = cond (has type) (Some kind) None

-- the kinds of a bank, and where it has none those of another
abbrev pub first_of : Bank → Bank → Bank
first_of a b type = cond (is_some (a type)) (a type) (b type)

-- by the kind found, if any: whether its patches come first
abbrev pub early_by : Option Kind → Option Bool
early_by None = None
early_by (Some k) = Some k.early

-- what it makes of an item
abbrev pub class_by : Option Kind → List (List ℕ) → Option Class
class_by None rs = None
class_by (Some k) rs = Some (class_of (k.meaning rs))

-- what an item means by it; an item of no kind gives nothing, as a malformed one
abbrev pub meant_by : Option Kind → List (List ℕ) → Meaning
meant_by None rs = malformed
meant_by (Some k) rs = k.meaning rs
