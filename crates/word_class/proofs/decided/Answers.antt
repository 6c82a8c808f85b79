-- The arms far down the rows, each a class found by its first code: single numbers, ranges, then what `_` leaves. The
-- arms before them the check finds alone.
use Rattle.std.proofs.Common.{ℕ, arith, refl, List, [], ◌∷◌, rules}
use Rattle.word_class.proofs.Classes.{class_from, no_class}
use Rattle.word_class.proofs.decided.Goals as goal

-- the single numbers of two parts of the match: what it has left is none of them
abbrev skips : List ℕ
skips =
    0o1436 ∷ 0o1434 ∷ 0o1433 ∷ 0o1432 ∷ 0o1430 ∷ 0o1426 ∷ 0o1424 ∷ 0o1422 ∷ 0o1420 ∷ 0o1416 ∷ 0o1414 ∷ 0o1412 ∷ 0o1410
    ∷ 0o1406 ∷ 0o1404 ∷ 0o1400 ∷ []

abbrev internals : List ℕ
internals = 0o1504 ∷ 0o1503 ∷ 0o1502 ∷ 0o1501 ∷ 0o1500 ∷ []

pub returns-in-832 : goal.returns-in-832
returns-in-832 c = class_from 0o1500 0o1501 _ refl (omega arith) (omega arith)

pub returns-in-833 : goal.returns-in-833
returns-in-833 c = class_from 0o1501 0o1502 _ refl (omega arith) (omega arith)

pub returns-in-834 : goal.returns-in-834
returns-in-834 c = class_from 0o1502 0o1503 _ refl (omega arith) (omega arith)

pub returns-in-835 : goal.returns-in-835
returns-in-835 c = class_from 0o1503 0o1504 _ refl (omega arith) (omega arith)

pub returns-in-836 : goal.returns-in-836
returns-in-836 c = class_from 0o1504 0o1505 _ refl (omega arith) (omega arith)

pub returns-in-840-to-843 : goal.returns-in-840-to-843
returns-in-840-to-843 c = class_from 0o1510 0o1514 _ refl (omega arith) (omega arith)

pub returns-in-852-to-853 : goal.returns-in-852-to-853
returns-in-852-to-853 c = class_from 0o1524 0o1526 _ refl (omega arith) (omega arith)

pub returns-in-854-to-855 : goal.returns-in-854-to-855
returns-in-854-to-855 c = class_from 0o1526 0o1530 _ refl (omega arith) (omega arith)

pub returns-in-856-to-859 : goal.returns-in-856-to-859
returns-in-856-to-859 c = class_from 0o1530 0o1534 _ refl (omega arith) (omega arith)

pub returns-in-860-to-861 : goal.returns-in-860-to-861
returns-in-860-to-861 c = class_from 0o1534 0o1536 _ refl (omega arith) (omega arith)

pub returns-in-862-to-863 : goal.returns-in-862-to-863
returns-in-862-to-863 c = class_from 0o1536 0o1540 _ refl (omega arith) (omega arith)

pub returns-in-864-to-895 : goal.returns-in-864-to-895
returns-in-864-to-895 c = class_from 0o1540 0o1600 _ refl (omega arith) (omega arith)

pub returns-in-928-to-959 : goal.returns-in-928-to-959
returns-in-928-to-959 c = class_from 0o1640 0o1700 _ refl (omega arith) (omega arith)

pub returns-in-960-to-975 : goal.returns-in-960-to-975
returns-in-960-to-975 c = class_from 0o1700 0o1720 _ refl (omega arith) (omega arith)

pub returns-in-976-to-991 : goal.returns-in-976-to-991
returns-in-976-to-991 c = class_from 0o1720 0o1740 _ refl (omega arith) (omega arith)

pub returns-in-992-to-1023 : goal.returns-in-992-to-1023
returns-in-992-to-1023 c = class_from 0o1740 0o2000 _ refl (omega arith) (omega arith)

pub returns-in_default-3 : goal.returns-in_default-3
returns-in_default-3 c =
    no_class internals 0o1500 0o0010 c.args.n (Unit {0}) refl (search rules) (omega arith) (omega arith)

pub returns-in_default-4 : goal.returns-in_default-4
returns-in_default-4 c = class_from 0o1514 0o1524 _ refl (omega arith) (omega arith)

pub returns-in_default-5 : goal.returns-in_default-5
returns-in_default-5 c = class_from 0o1600 0o1640 _ refl (omega arith) (omega arith)
