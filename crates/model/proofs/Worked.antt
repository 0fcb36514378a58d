-- The worked cases, by computation.
use Rattle.std.proofs.Common.{ℕ, zero, suc, replicate, refl, lit<, lit≤}
use Rattle.codec.specs.Fields.{Bytes}
use Rattle.model.specs.Cases.{Case1, Case2, Case3, Case4, Case5, Case6, Case7, Case8, Table}

sevens : (n : ℕ) → Bytes (replicate n 7)
sevens zero = tt
sevens (suc n) = (lit< tt, sevens n)

case_1 : Case1
case_1 = record { found = refl; session = refl }

case_2 : Case2
case_2 = record {
  bytes = refl;
  steady = record { sane = record { some = lit≤ tt; few = lit≤ tt; short = lit≤ tt; uuid = refl; bytes = sevens 16 }; even = refl; begun = lit≤ tt; behind = lit≤ tt; low = lit< tt };
  number = refl;
  session = refl;
  found = refl;
  forced = refl;
  clearing = refl;
  cleared = refl;
}

case_3 : Case3
case_3 = record { found = refl; actions = refl; blanked = refl; laid = refl; again = refl }

case_4 : Case4
case_4 = record { passes = refl; refused = refl }

case_5 : Case5
case_5 = record { passes = refl; refused = refl }

case_6 : Case6
case_6 = record { counts = refl; laid = refl }

case_7 : Case7
case_7 = record { regions = refl; beyond = refl; refused = refl }

case_8 : Case8
case_8 = record { passes = refl; zero = refl; in_log = refl; negative = refl }

pub table_holds : Table
table_holds = record { one = case_1; two = case_2; three = case_3; four = case_4; five = case_5; six = case_6; seven = case_7; eight = case_8; vector = refl }
