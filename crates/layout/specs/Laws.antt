-- What is true of the real layout. Assumes nothing.
use Rattle.std.specs.Prelude.{ℕ}
use Rattle.label.specs.declared.label.Label.{Label}
use Rattle.item.specs.Meaning.{Bank}
use Rattle.life.specs.Format.{Format}
use Rattle.layout.specs.Real.{Usable, Real}
use Rattle.layout.specs.Plans.{SeekPlans}
use Rattle.layout.specs.Chains.{ChainReads}

-- the real layout under a label, on a volume of n sectors, with the kinds of a bank: it keeps the laws of a format, what is found in its log is the plan of a
-- life, and its reading of the chain gives what the records say
pub record Layout (L : Label) (n : ℕ) (bank : Bank) : Type 0 where
  pub format : Format
  pub is_real : Real L n bank format
  pub seeks : SeekPlans L format
  pub reading : ChainReads L n bank format

-- so it is under every label that keeps its limits
abbrev pub LayoutStands : Type 0
LayoutStands = (L : Label) (n : ℕ) (bank : Bank) → Usable L n → Layout L n bank
