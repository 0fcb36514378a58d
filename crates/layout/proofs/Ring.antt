-- The ring of a log under a label. Assumes nothing.
use Rattle.std.proofs.Common.{◌≡◌, ℕ, suc, ◌+◌, ◌*◌, ◌/◌, ◌%◌, ◌<◌, ◌≤◌, true, eqb, leb, ◌⊎◌, ap, inl, inr, mul-le-mul_right, mod-lt, suc-mul, div-add-mod', arith}
use native.Mathlib.Nat.{add-mod_right}
use Rattle.std.proofs.lemmas.Bool.{cases_lt, and_parts, eqb-true, leb-true}
use Rattle.label.specs.declared.label.Label.{Label}
use Rattle.label.specs.Label.{limits}
use Rattle.label.specs.Position.{volume_sector}
use Rattle.model.specs.Laws.{Sane}
use Rattle.life.specs.Log.{Ring}
use Rattle.layout.specs.Real.{Usable, pos, len, tail, sound}

-- the limits of a label, each by itself
pub record Limits (L : Label) (n : ℕ) : Type 0 where
  pub start : 1 ≤ L.start
  pub inside : L.start + L.count ≤ n
  pub some : 16 ≤ L.count
  pub few : L.count ≤ 2097152
  pub even : L.most % 512 ≡ 0
  pub least : 512 ≤ L.most
  pub short : L.most ≤ 32768
  pub room : 1 + L.most / 512 ≤ L.window
  pub half : 2 * L.window ≤ L.count

pub limits_each : (L : Label) (n : ℕ) → limits L n ≡ true → Limits L n
limits_each L n e =
    let a = and_parts (leb 1 L.start) _ e in
    let b = and_parts (leb (L.start + L.count) n) _ a.1 in
    let c = and_parts (leb 16 L.count) _ b.1 in
    let d = and_parts (leb L.count 2097152) _ c.1 in
    let f = and_parts (eqb (L.most % 512) 0) _ d.1 in
    let g = and_parts (leb 512 L.most) _ f.1 in
    let h = and_parts (leb L.most 32768) _ g.1 in
    let i = and_parts (leb (1 + L.most / 512) L.window) (leb (2 * L.window) L.count) h.1 in
    record {
      start = leb-true _ _ a.0;
      inside = leb-true _ _ b.0;
      some = leb-true _ _ c.0;
      few = leb-true _ _ d.0;
      even = eqb-true _ _ f.0;
      least = leb-true _ _ g.0;
      short = leb-true _ _ h.0;
      room = leb-true _ _ i.0;
      half = leb-true _ _ i.1;
    }

-- positions on one sector and less than a turn apart are the same
pub apart : (N x y : ℕ) → x % N ≡ y % N → x ≤ y → y < x + N → x ≡ y
apart N x y e h l = go (cases_lt (x / N) (y / N))
  where
    go : (x / N < y / N) ⊎ (y / N ≤ x / N) → x ≡ y
    go (inl a) =
        let m : suc (x / N) * N ≤ y / N * N = mul-le-mul_right N a in
        omega (arith, m, suc-mul (x / N) N, div-add-mod' x N, div-add-mod' y N, e)
    go (inr b) =
        let m : y / N * N ≤ x / N * N = mul-le-mul_right N b in
        omega (arith, m, div-add-mod' x N, div-add-mod' y N, e)

module _ (L : Label) (n : ℕ) (u : Usable L n) where
  pub limited : Limits L n
  limited = limits_each L n u.kept

  pub sane : Sane L
  sane = let g = limited in record { some = omega (arith, g.some); few = g.few; short = g.short; uuid = u.uuid; bytes = u.bytes }

  abbrev pub ring : Ring
  ring = record {
    sectors = n;
    N = L.count;
    W = L.window;
    R = L.most;
    slot = volume_sector L;
    pos = pos L;
    len = len;
    tail = tail L;
    sound = sound L;
    period = λ x. ap (λ k. L.start + k) (add-mod_right x L.count);
    apart = λ x y e h l. apart L.count x y (omega (arith, e)) h l;
    narrow = omega (arith, limited.some, limited.room, limited.half);
    inside = λ x. (omega (arith, limited.start), omega (arith, limited.inside, limited.some, mod-lt x sane.some));
  }
