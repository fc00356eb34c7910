-- What holds of each of the twelve numbers below 12.
use Rattle.std.proofs.Common.{ℕ, zero, suc, ◌<◌, arith}

pub below_12 : (P : ℕ → Type 0) → P 0 → P 1 → P 2 → P 3 → P 4 → P 5 → P 6 → P 7 → P 8 → P 9 → P 10 → P 11 → (n : ℕ) → n < 12 → P n
below_12 P a b c d e f g h i j k l zero low = a
below_12 P a b c d e f g h i j k l (suc zero) low = b
below_12 P a b c d e f g h i j k l (suc (suc zero)) low = c
below_12 P a b c d e f g h i j k l (suc (suc (suc zero))) low = d
below_12 P a b c d e f g h i j k l (suc (suc (suc (suc zero)))) low = e
below_12 P a b c d e f g h i j k l (suc (suc (suc (suc (suc zero))))) low = f
below_12 P a b c d e f g h i j k l (suc (suc (suc (suc (suc (suc zero)))))) low = g
below_12 P a b c d e f g h i j k l (suc (suc (suc (suc (suc (suc (suc zero))))))) low = h
below_12 P a b c d e f g h i j k l (suc (suc (suc (suc (suc (suc (suc (suc zero)))))))) low = i
below_12 P a b c d e f g h i j k l (suc (suc (suc (suc (suc (suc (suc (suc (suc zero))))))))) low = j
below_12 P a b c d e f g h i j k l (suc (suc (suc (suc (suc (suc (suc (suc (suc (suc zero)))))))))) low = k
below_12 P a b c d e f g h i j k l (suc (suc (suc (suc (suc (suc (suc (suc (suc (suc (suc zero))))))))))) low = l
below_12 P a b c d e f g h i j k l (suc (suc (suc (suc (suc (suc (suc (suc (suc (suc (suc (suc n)))))))))))) low = absurd (omega arith)
