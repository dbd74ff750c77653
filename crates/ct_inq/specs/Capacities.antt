-- What READ CAPACITY returns of a logical unit with so many blocks, at least one (SBC-3, 5.15 and 5.16).
use Rattle.std.specs.Prelude.{ℕ, ◌-◌, List, [], ◌∷◌, ◌++◌, replicate}
use Rattle.ct_word.specs.Fields.{bytes_of}
use Rattle.ct_word.specs.declared.limit.TheConstants.{BLOCK_SIZE}
use Rattle.ct_inq.specs.Allocation.{cut}

-- RETURNED LOGICAL BLOCK ADDRESS: that of the last block
abbrev pub last_lba : ℕ → ℕ
last_lba blocks = blocks - 1

-- the data-in of READ CAPACITY (10), 8 bytes: the last LBA, and LOGICAL BLOCK LENGTH IN BYTES
unfoldable pub capacity_10_data : ℕ → List ℕ
capacity_10_data blocks = bytes_of 4 (last_lba blocks) ++ bytes_of 4 BLOCK_SIZE

-- all that READ CAPACITY (16) has to say, 32 bytes
unfoldable pub long_capacity : ℕ → List ℕ
long_capacity blocks =
    bytes_of 8 (last_lba blocks)
    ++ bytes_of 4 BLOCK_SIZE  -- LOGICAL BLOCK LENGTH IN BYTES
    ++ 0x00  -- P_TYPE, PROT_EN: no protection information
    ∷ 0x00  -- P_I_EXPONENT, LOGICAL BLOCKS PER PHYSICAL BLOCK EXPONENT: one
    ∷ 0xc0  -- LBPME: blocks can be unmapped; LBPRZ: and then read as zeros
    ∷ 0x00  -- LOWEST ALIGNED LOGICAL BLOCK ADDRESS: 0
    ∷ []
    ++ replicate 16 0  -- reserved

-- the data-in of READ CAPACITY (16)
unfoldable pub capacity_16_data : ℕ → ℕ → List ℕ
capacity_16_data blocks allocation = cut allocation (long_capacity blocks)
