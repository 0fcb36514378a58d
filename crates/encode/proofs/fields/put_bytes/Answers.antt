-- What is copied is what is put.
use mathlib.Core.Path.{◌≡◌, sym, ap, ◌∙◌}
use Prim.Native.Nat.{◌+◌, ◌-◌}
use native.Mathlib.Omega.{arith}
use borrow.Rule.Slice.PartMut.{put_mid}
use lib.ListN.{take}
use Rattle.codec.proofs.Puts.{put_past, put_cut}
use Rattle.encode.proofs.fields.put_bytes.Goals as goal

pub returns-then-at-b : goal.returns-then-at-b
returns-then-at-b c =
    let b = c.args.b.now in
    let at = c.args.at in
    let xs = c.args.bytes.now in
    let n = c.min-n.result in
    let k : at + n - at ≡ n = omega arith in
    ap (λ ys. put_mid at (at + n - at) b ys) c.copy_from_slice.ensures.after ∙ ap (λ m. put_mid at m b (take n xs)) k
    ∙ put_cut b at xs n (omega arith) c.min-n.ensures

pub returns-else-at-b : goal.returns-else-at-b
returns-else-at-b c = sym (put_past c.args.b.now c.args.at c.args.bytes.now (omega arith))
