-- A number read from its highest byte down, and that it fits.
use mathlib.Core.Path.{◌≡◌, ap}
use mathlib.Core.List.{List}
use Prim.Native.Nat.{ℕ, suc, ◌+◌, ◌-◌, ◌*◌, ◌^◌, ◌<◌, ◌≤◌}
use native.Mathlib.Nat.{pow-succ', pow-le-pow_right}
use native.Mathlib.Omega.{arith}
use lib.ListN.{length, get_or, drop}
use lib.Seq.{drop-cons}
use Rattle.catch_commands.specs.Operands.{little_endian}

-- the number of the bytes from i on
pub record Reading (bytes : List ℕ) (i number : ℕ) : Type 0 where
  pub same : number ≡ little_endian (drop i bytes)
  pub small : number < 256 ^ (length bytes - i)

module _ (bytes : List ℕ) (i number : ℕ) (r : Reading bytes i number) (more : 0 < i) (inside : i ≤ length bytes) where
  -- with at most eight bytes, one byte more finds room
  pub room : length bytes ≤ 8 → number < 256 ^ 7
  room few =
      let h : length bytes - i ≤ 7 = omega arith in
      let p : 256 ^ (length bytes - i) ≤ 256 ^ 7 = pow-le-pow_right (omega arith) h in
      omega (arith, r.small)

  pub step : get_or bytes (i - 1) 0 < 256 → Reading bytes (i - 1) (number * 256 + get_or bytes (i - 1) 0)
  step byte =
      record {
        same =
            let e : suc (i - 1) ≡ i = omega arith in
            let d = ap little_endian (drop-cons bytes (i - 1) 0 (omega arith)) in
            let f = ap (λ k. little_endian (drop k bytes)) e in
            omega (arith, r.same);
        small =
            let e : length bytes - (i - 1) ≡ suc (length bytes - i) = omega arith in
            rw (e, pow-succ') (omega (arith, r.small));
      }
