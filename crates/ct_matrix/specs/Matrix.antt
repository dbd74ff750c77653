-- What two commands are to each other, by their serialisation indexes. The table is this project's own.
use Rattle.std.specs.Prelude.{ℕ, List, [], ◌∷◌, slice_index_or}
use Rattle.ct_cdb.specs.declared.op.SerIdx.{SerIdx}
use Rattle.ct_cdb.specs.declared.op.SerIdx.TheVariants.{Tur, Inq, RqS, Cap, Rd, Wr, Un, Sy, MSn, MSl, Res, Sta}
use Rattle.ct_matrix.specs.declared.cells.Action.{Action}
use Rattle.ct_matrix.specs.declared.cells.Action.TheVariants as action

-- the letters of the table
abbrev K : Action
K = action.Skip

abbrev P : Action
P = action.Pass

abbrev B : Action
B = action.Block

abbrev X : Action
X = action.Extent

abbrev b : Action
b = action.OptBlock

abbrev x : Action
x = action.OptExtent

-- a row of the table: a command of this index beside one of each index
--        Tur Inq RqS Cap Rd  Wr  Un  Sy  MSn MSl Res Sta
abbrev pub row_of : SerIdx → List Action
row_of Tur = P ∷ K ∷ K ∷ P ∷ P ∷ P ∷ P ∷ P ∷ P ∷ B ∷ B ∷ B ∷ []
row_of Inq = P ∷ K ∷ K ∷ P ∷ P ∷ P ∷ P ∷ P ∷ P ∷ P ∷ P ∷ P ∷ []
row_of RqS = P ∷ K ∷ K ∷ P ∷ P ∷ P ∷ P ∷ P ∷ P ∷ P ∷ P ∷ P ∷ []
row_of Cap = P ∷ K ∷ K ∷ P ∷ P ∷ P ∷ P ∷ P ∷ P ∷ P ∷ P ∷ P ∷ []
row_of Rd = P ∷ K ∷ K ∷ P ∷ P ∷ x ∷ x ∷ P ∷ P ∷ B ∷ B ∷ B ∷ []
row_of Wr = P ∷ K ∷ K ∷ P ∷ x ∷ X ∷ x ∷ b ∷ P ∷ B ∷ B ∷ B ∷ []
row_of Un = P ∷ K ∷ K ∷ P ∷ x ∷ x ∷ x ∷ b ∷ P ∷ B ∷ B ∷ B ∷ []
row_of Sy = P ∷ K ∷ K ∷ P ∷ P ∷ P ∷ P ∷ P ∷ P ∷ B ∷ B ∷ B ∷ []
row_of MSn = P ∷ K ∷ K ∷ P ∷ P ∷ P ∷ P ∷ P ∷ P ∷ B ∷ B ∷ B ∷ []
row_of MSl = B ∷ K ∷ K ∷ B ∷ B ∷ B ∷ B ∷ B ∷ B ∷ B ∷ B ∷ B ∷ []
row_of Res = B ∷ K ∷ K ∷ B ∷ B ∷ B ∷ B ∷ B ∷ B ∷ B ∷ B ∷ B ∷ []
row_of Sta = B ∷ K ∷ K ∷ B ∷ B ∷ B ∷ B ∷ B ∷ B ∷ B ∷ B ∷ B ∷ []

-- the column of an index
abbrev pub column_of : SerIdx → ℕ
column_of Tur = 0
column_of Inq = 1
column_of RqS = 2
column_of Cap = 3
column_of Rd = 4
column_of Wr = 5
column_of Un = 6
column_of Sy = 7
column_of MSn = 8
column_of MSl = 9
column_of Res = 10
column_of Sta = 11

-- the cell of the table for two indexes
abbrev pub action_of : SerIdx → SerIdx → Action
action_of a other = slice_index_or (row_of a) (column_of other) P
