use Rattle.std.proofs.Common.{◌≡◌, ℕ, ◌+◌, ◌-◌, ◌*◌, ◌/◌, length, drop, Ok, Err, sym, ap, ◌∙◌, arith}
use Rattle.std.proofs.lemmas.List.{length-take, length-drop}
use Rattle.std.proofs.lemmas.Result.{err_from_is_err_and}
use Rattle.codec.specs.Fields.{joined}
use Rattle.device.specs.Steps.{read}
use Rattle.device.proofs.Reading.{read_ok, read_err}
use Rattle.label.specs.Position.{volume_sector}
use Rattle.chain.specs.Rows.{row, told, sectors_on, read_before, over}
use Rattle.volume_log.proofs.Rows.{each_more}
use Rattle.chain.proofs.Positions.{along, on_all, on_stop}
use Rattle.chain.proofs.Laid.{row_more}
use Rattle.chain.proofs.rows.read_row.Goals as goal
use borrow.Rule.Slice.PartMut.{put_mid, put_same}

pub loop-k-preserved : goal.loop-k-preserved
loop-k-preserved g c =
    let s = g.D.Device.state c.args.log.now.device.now in
    let L = c.args.log.now.geometry.label in
    let x = c.args.first in
    let k = c.loop-k.k in
    let i = volume_sector L (x + k) in
    let out = c.read_over.new.bytes in
    let e : read s i ≡ Ok out = read_ok (read s i) _ (sym c.read_over.ensures.answer ∙ c.in_ok-read_over.was) ∙ ap Ok (sym c.read_over.ensures.bytes) in
    let m : length out ≡ 512 = omega (arith, length-take (512 * (k + 1) - 512 * k) (drop (512 * k) c.loop-k.buffer), length-drop (512 * k) c.loop-k.buffer) in
    let r = row_more s L x k out c.args.buffer.now c.loop-k.buffer e m c.loop-k.invariant.2 c.loop-k.invariant.1 in
    (each_more s (along L x) k out c.loop-k.invariant.0 e, r.0, r.1)

pub returns-in_err-read_over : goal.returns-in_err-read_over
returns-in_err-read_over g c =
    let s = g.D.Device.state c.args.log.now.device.now in
    let L = c.args.log.now.geometry.label in
    let x = c.args.first in
    let k = c.loop-k.k in
    let i = volume_sector L (x + k) in
    let n = 512 * (k + 1) - 512 * k in
    let p = err_from_is_err_and c.from_residual.result c.from_residual.ensures.1 in
    let e = read_err (read s i) _ _ (sym c.read_over.ensures.answer ∙ c.in_err-read_over.was) in
    let q = on_stop s L x (length c.args.buffer.now / 512) k _ c.loop-k-test.true c.loop-k.invariant.0 e.0 in
    record {
      answer = p.1 ∙ ap Err p.2 ∙ sym (ap told q.0);
      buffer = ap (put_mid (512 * k) n c.loop-k.buffer) (c.read_over.ensures.bytes ∙ e.1) ∙ put_same (512 * k) n c.loop-k.buffer ∙ c.loop-k.invariant.1
          ∙ ap (λ n. over n (joined (row s L x n)) c.args.buffer.now) (sym q.1);
      whole = λ ok. let z : ◌≡◌ {A = ℕ} 0 1 = cc (sym p.1 ∙ ok) in let y : ⊥ = omega arith in absurd y;
    }

pub returns : goal.returns
returns g c =
    let s = g.D.Device.state c.args.log.now.device.now in
    let L = c.args.log.now.geometry.label in
    let x = c.args.first in
    let n : c.loop-k.k ≡ length c.args.buffer.now / 512 = omega (arith, c.loop-k-test.false, c.loop-k.auto.k-end) in
    let q = on_all s L x c.loop-k.k c.loop-k.invariant.0 in
    let b : read_before s L x (length c.args.buffer.now / 512) ≡ c.loop-k.k = ap (read_before s L x) (sym n) ∙ q.1 in
    record {
      answer = sym (ap told (ap (sectors_on s L x) (sym n) ∙ q.0));
      buffer = c.loop-k.invariant.1 ∙ ap (λ i. over i (joined (row s L x i)) c.args.buffer.now) (sym b);
      whole = λ _. ap (λ i. length (joined (row s L x i))) (sym n) ∙ c.loop-k.invariant.2 ∙ ap (λ i. 512 * i) n;
    }
