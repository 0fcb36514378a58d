-- The laws, from their lemmas.
use mathlib.Core.List.{[]}
use Rattle.codec.proofs.Numbers.{length_be_bytes, length_le_bytes, be_within, le_within, be_put, le_put}
use Rattle.codec.proofs.Puts.{length_put, put_below, put_above}
use Rattle.codec.specs.Signs.{signed32_back, signed64_back}
use Rattle.encode.proofs.laws.codec_laws.Goals as goal

pub returns-clause-laws : goal.returns-clause-laws
returns-clause-laws c =
    record {
      be_length = length_be_bytes;
      le_length = length_le_bytes;
      be_within = be_within;
      le_within = le_within;
      be_first = λ n x rest small. be_within n x [] rest small;
      le_first = λ n x rest small. le_within n x [] rest small;
      be_put = be_put;
      le_put = le_put;
      put_length = length_put;
      put_below = put_below;
      put_above = put_above;
      signed32_back = signed32_back;
      signed64_back = signed64_back;
    }
