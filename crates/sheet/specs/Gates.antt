-- Gates: the operands that a gate names, and its Boolean function. Assumes nothing.
--     operands g    what the gate names, in order: labels or ranks
--     renamed f g   the gate with its operands renamed
--     unary, binary  the Boolean functions of the operations
--     value g v     the gate's Boolean function, where v gives the value of each operand
use Rattle.std.specs.Prelude.{ℕ, Bool, true, false, not, ◌&&◌, ◌||◌, List, [], ◌∷◌}
use Rattle.sheet.specs.declared.gate.UnaryOp.{UnaryOp}
use Rattle.sheet.specs.declared.gate.UnaryOp.TheVariants.{Buf, Not}
use Rattle.sheet.specs.declared.gate.BinaryOp.{BinaryOp}
use Rattle.sheet.specs.declared.gate.BinaryOp.TheVariants.{And, Or, Xor, Nand, Nor, Xnor}
use Rattle.sheet.specs.declared.gate.Gate.{Gate}
use Rattle.sheet.specs.declared.gate.Gate.TheVariants.{Constant, Unary, Binary}

abbrev pub operands : Gate → List ℕ
operands (Constant b) = []
operands (Unary op a) = a ∷ []
operands (Binary op a b) = a ∷ b ∷ []

abbrev pub renamed : (ℕ → ℕ) → Gate → Gate
renamed f (Constant b) = Constant b
renamed f (Unary op a) = Unary op (f a)
renamed f (Binary op a b) = Binary op (f a) (f b)

-- exclusive or
abbrev pub differ : Bool → Bool → Bool
differ true y = not y
differ false y = y

abbrev pub unary : UnaryOp → Bool → Bool
unary Buf x = x
unary Not x = not x

abbrev pub binary : BinaryOp → Bool → Bool → Bool
binary And x y = x && y
binary Or x y = x || y
binary Xor x y = differ x y
binary Nand x y = not (x && y)
binary Nor x y = not (x || y)
binary Xnor x y = not (differ x y)

abbrev pub value : Gate → (ℕ → Bool) → Bool
value (Constant b) v = b
value (Unary op a) v = unary op (v a)
value (Binary op a b) v = binary op (v a) (v b)
