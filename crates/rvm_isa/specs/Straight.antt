-- What the kind of a word says of its opcode and funct3.
use Rattle.std.specs.Prelude.{ℕ, ◌≡◌, List, [], ◌∷◌, ◌++◌}
use Rattle.rvm_isa.specs.declared.straight.Kind.{Kind}
use Rattle.rvm_isa.specs.declared.straight.Kind.TheVariants as kind

-- a kind is the one of this opcode and funct3
abbrev pub Fits : Kind → (op f : ℕ) → Type 0
Fits kind.Other op f = op ≡ op
Fits kind.Lui op f = op ≡ 0x37
Fits kind.Auipc op f = op ≡ 0x17
Fits kind.Jal op f = op ≡ 0x6F
Fits kind.Jalr op f = (op ≡ 0x67) × (f ≡ 0)
Fits kind.Beq op f = (op ≡ 0x63) × (f ≡ 0)
Fits kind.Bne op f = (op ≡ 0x63) × (f ≡ 1)
Fits kind.Blt op f = (op ≡ 0x63) × (f ≡ 4)
Fits kind.Bge op f = (op ≡ 0x63) × (f ≡ 5)
Fits kind.Bltu op f = (op ≡ 0x63) × (f ≡ 6)
Fits kind.Bgeu op f = (op ≡ 0x63) × (f ≡ 7)
Fits kind.Lb op f = (op ≡ 0x03) × (f ≡ 0)
Fits kind.Lh op f = (op ≡ 0x03) × (f ≡ 1)
Fits kind.Lw op f = (op ≡ 0x03) × (f ≡ 2)
Fits kind.Lbu op f = (op ≡ 0x03) × (f ≡ 4)
Fits kind.Lhu op f = (op ≡ 0x03) × (f ≡ 5)
Fits kind.Sb op f = (op ≡ 0x23) × (f ≡ 0)
Fits kind.Sh op f = (op ≡ 0x23) × (f ≡ 1)
Fits kind.Sw op f = (op ≡ 0x23) × (f ≡ 2)
Fits kind.Addi op f = (op ≡ 0x13) × (f ≡ 0)
Fits kind.Slli op f = (op ≡ 0x13) × (f ≡ 1)
Fits kind.Slti op f = (op ≡ 0x13) × (f ≡ 2)
Fits kind.Sltiu op f = (op ≡ 0x13) × (f ≡ 3)
Fits kind.Xori op f = (op ≡ 0x13) × (f ≡ 4)
Fits kind.ShiftRightI op f = (op ≡ 0x13) × (f ≡ 5)
Fits kind.Ori op f = (op ≡ 0x13) × (f ≡ 6)
Fits kind.Andi op f = (op ≡ 0x13) × (f ≡ 7)
Fits kind.Add op f = (op ≡ 0x33) × (f ≡ 0)
Fits kind.Sll op f = (op ≡ 0x33) × (f ≡ 1)
Fits kind.Slt op f = (op ≡ 0x33) × (f ≡ 2)
Fits kind.Sltu op f = (op ≡ 0x33) × (f ≡ 3)
Fits kind.Xor op f = (op ≡ 0x33) × (f ≡ 4)
Fits kind.ShiftRight op f = (op ≡ 0x33) × (f ≡ 5)
Fits kind.Or op f = (op ≡ 0x33) × (f ≡ 6)
Fits kind.And op f = (op ≡ 0x33) × (f ≡ 7)
Fits kind.Fence op f = (op ≡ 0x0F) × (f ≡ 0)
Fits kind.FenceI op f = (op ≡ 0x0F) × (f ≡ 1)
Fits kind.Amo op f = (op ≡ 0x2F) × (f ≡ 2)
Fits kind.System op f = (op ≡ 0x73) × (f ≡ 0)

-- the kinds of an opcode, by funct3
abbrev none : List Kind
none = kind.Other ∷ kind.Other ∷ kind.Other ∷ kind.Other ∷ kind.Other ∷ kind.Other ∷ kind.Other ∷ kind.Other ∷ []

abbrev loads : List Kind
loads = kind.Lb ∷ kind.Lh ∷ kind.Lw ∷ kind.Other ∷ kind.Lbu ∷ kind.Lhu ∷ kind.Other ∷ kind.Other ∷ []

abbrev immediates : List Kind
immediates = kind.Addi ∷ kind.Slli ∷ kind.Slti ∷ kind.Sltiu ∷ kind.Xori ∷ kind.ShiftRightI ∷ kind.Ori ∷ kind.Andi ∷ []

abbrev auipcs : List Kind
auipcs = kind.Auipc ∷ kind.Auipc ∷ kind.Auipc ∷ kind.Auipc ∷ kind.Auipc ∷ kind.Auipc ∷ kind.Auipc ∷ kind.Auipc ∷ []

abbrev stores : List Kind
stores = kind.Sb ∷ kind.Sh ∷ kind.Sw ∷ kind.Other ∷ kind.Other ∷ kind.Other ∷ kind.Other ∷ kind.Other ∷ []

abbrev operations : List Kind
operations = kind.Add ∷ kind.Sll ∷ kind.Slt ∷ kind.Sltu ∷ kind.Xor ∷ kind.ShiftRight ∷ kind.Or ∷ kind.And ∷ []

abbrev luis : List Kind
luis = kind.Lui ∷ kind.Lui ∷ kind.Lui ∷ kind.Lui ∷ kind.Lui ∷ kind.Lui ∷ kind.Lui ∷ kind.Lui ∷ []

abbrev branches : List Kind
branches = kind.Beq ∷ kind.Bne ∷ kind.Other ∷ kind.Other ∷ kind.Blt ∷ kind.Bge ∷ kind.Bltu ∷ kind.Bgeu ∷ []

abbrev jalrs : List Kind
jalrs = kind.Jalr ∷ kind.Other ∷ kind.Other ∷ kind.Other ∷ kind.Other ∷ kind.Other ∷ kind.Other ∷ kind.Other ∷ []

abbrev jals : List Kind
jals = kind.Jal ∷ kind.Jal ∷ kind.Jal ∷ kind.Jal ∷ kind.Jal ∷ kind.Jal ∷ kind.Jal ∷ kind.Jal ∷ []

abbrev fences : List Kind
fences = kind.Fence ∷ kind.FenceI ∷ kind.Other ∷ kind.Other ∷ kind.Other ∷ kind.Other ∷ kind.Other ∷ kind.Other ∷ []

abbrev atomics : List Kind
atomics = kind.Other ∷ kind.Other ∷ kind.Amo ∷ kind.Other ∷ kind.Other ∷ kind.Other ∷ kind.Other ∷ kind.Other ∷ []

abbrev systems : List Kind
systems = kind.System ∷ kind.Other ∷ kind.Other ∷ kind.Other ∷ kind.Other ∷ kind.Other ∷ kind.Other ∷ kind.Other ∷ []

-- these lists of kinds, each after three opcodes without rows, which end in 00, 01 and 10
abbrev by_opcode : List (List Kind) → List Kind
by_opcode [] = []
by_opcode (ks ∷ rest) = none ++ none ++ none ++ ks ++ by_opcode rest

-- the kinds of each opcode, by funct3
unfoldable pub kinds : List Kind
kinds = by_opcode (
    loads ∷ none ∷ none ∷ fences ∷ immediates ∷ auipcs ∷ none ∷ none ∷
    stores ∷ none ∷ none ∷ atomics ∷ operations ∷ luis ∷ none ∷ none ∷
    none ∷ none ∷ none ∷ none ∷ none ∷ none ∷ none ∷ none ∷
    branches ∷ jalrs ∷ none ∷ jals ∷ systems ∷ none ∷ none ∷ none ∷ [])
