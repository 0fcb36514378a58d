-- All that is true of the real layout. Assumes nothing.
use Rattle.layout.specs.Laws.{LayoutStands}
use Rattle.layout.proofs.Real.{real, is_real}
use Rattle.layout.proofs.Search.{seek_plans}
use Rattle.layout.proofs.Chains.{chain_reads}

pub layout_stands : LayoutStands
layout_stands L n bank u = record { format = real L n bank u; is_real = is_real L n bank u; seeks = seek_plans L n bank u; reading = chain_reads L n bank u }
