-- Which numbers are PCK-IDs. Assumes nothing.
use mathlib.Core.Path.{◌≡◌, refl, ap}
use mathlib.Core.Bool.{Bool, true, false, ◌&&◌, ◌||◌}
use Prim.Native.Nat.{ℕ, ◌/◌}
use native.Mathlib.Omega.{arith}
use lib.Dec.{leb, eqb}
use borrow.Author.Tests.{leb-true, leb-false, eq-eqb, ne_eqb}
use Rattle.frame.specs.Range.{within, pck_good}

-- a PCK-ID is good exactly if it is 0 or lies between 10000000 and 1fffffff (hexadecimal)
pub pck-good-exactly : (pck : ℕ) → pck_good pck ≡ (eqb pck 0 || within 0x1000_0000 pck 0x1fff_ffff)
pck-good-exactly pck = ap (λ (t : Bool). eqb pck 0 || t) (between (leb 0x1000_0000 pck) (leb pck 0x1fff_ffff) refl refl)
  where
    between : (a b : Bool) → leb 0x1000_0000 pck ≡ a → leb pck 0x1fff_ffff ≡ b → eqb (pck / 0x1000_0000) 0b0001 ≡ (a && b)
    between true true e f =
        let h = leb-true 0x1000_0000 pck e in let k = leb-true pck 0x1fff_ffff f in eq-eqb (pck / 0x1000_0000) 1 (omega (arith, h, k))
    between true false e f = let k = leb-false pck 0x1fff_ffff f in ne_eqb (pck / 0x1000_0000) 1 (λ q. omega (arith, k, q))
    between false b e f = let h = leb-false 0x1000_0000 pck e in ne_eqb (pck / 0x1000_0000) 1 (λ q. omega (arith, h, q))
