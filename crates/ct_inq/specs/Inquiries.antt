-- What INQUIRY returns (SPC-4, 6.6): the standard data, and pages of vital product data (SPC-4, 7.8, and SBC-3, 6.6).
use Rattle.std.specs.Prelude.{ℕ, List, [], ◌∷◌, ◌++◌, length, replicate}
use Rattle.ct_word.specs.Fields.{bytes_of}
use Rattle.ct_word.specs.declared.limit.TheConstants.{MOST_COMPARE, MOST_TRANSFER, MOST_BLOCKS, MOST_RANGES}
use Rattle.ct_cdb.specs.declared.choices.InquiryPage.{InquiryPage}
use Rattle.ct_cdb.specs.declared.choices.InquiryPage.TheVariants as page
use Rattle.ct_inq.specs.Texts.{vendor, product, revision, serial}
use Rattle.ct_inq.specs.Allocation.{cut}

-- byte 0 of all data: PERIPHERAL QUALIFIER 000b, the logical unit is there, and PERIPHERAL DEVICE TYPE 00h, a disk
abbrev pub disk : ℕ
disk = 0x00

-- bytes 5 to 7 of the standard data, and the texts from byte 8 on
abbrev pub features : List ℕ
features =
    0x00  -- SCCS, ACC, TPGS, 3PC, PROTECT: none
    ∷ 0x00  -- ENCSERV, MULTIP: none
    ∷ 0x02  -- CMDQUE: commands are queued
    ∷ []
    ++ vendor  -- T10 VENDOR IDENTIFICATION, bytes 8 to 15
    ++ product  -- PRODUCT IDENTIFICATION, bytes 16 to 31
    ++ revision  -- PRODUCT REVISION LEVEL, bytes 32 to 35

-- the standard data (SPC-4, 6.6), 36 bytes
unfoldable pub standard_inquiry : List ℕ
standard_inquiry =
    disk
    ∷ 0x00  -- RMB: the medium isn't removable
    ∷ 0x06  -- VERSION: SPC-4
    ∷ 0x12  -- HISUP: LUNs are hierarchical; RESPONSE DATA FORMAT 2h
    ∷ length features  -- ADDITIONAL LENGTH
    ∷ features

-- a page of vital product data: PAGE CODE, PAGE LENGTH in two bytes, and so many bytes
abbrev pub vpd : ℕ → List ℕ → List ℕ
vpd code rest = disk ∷ code ∷ bytes_of 2 (length rest) ++ rest

-- Supported VPD Pages (SPC-4, 7.8): the page codes in rising order
unfoldable pub supported_pages : List ℕ
supported_pages = vpd 0x00 (0x00 ∷ 0x80 ∷ 0x83 ∷ 0xb0 ∷ 0xb2 ∷ [])

-- Unit Serial Number (SPC-4, 7.8)
unfoldable pub serial_page : ℕ → List ℕ
serial_page lun = vpd 0x80 (serial lun)

-- a designation descriptor (SPC-4, 7.8) with its DESIGNATOR LENGTH
abbrev pub designation : List ℕ → List ℕ
designation designator =
    0x02  -- PROTOCOL IDENTIFIER: none; CODE SET 2h, ASCII
    ∷ 0x01  -- ASSOCIATION 00b, the logical unit; DESIGNATOR TYPE 1h, T10 vendor ID
    ∷ 0x00
    ∷ length designator  -- DESIGNATOR LENGTH
    ∷ designator

-- Device Identification (SPC-4, 7.8), with one designation descriptor
unfoldable pub identification_page : ℕ → List ℕ
identification_page lun = vpd 0x83 (designation (vendor ++ serial lun))

-- Block Limits (SBC-3, 6.6). Numbers of blocks are told in the blocks of READ CAPACITY
unfoldable pub limits_page : List ℕ
limits_page = vpd 0xb0 (
    0x01  -- WSNZ: WRITE SAME of no blocks is refused
    ∷ MOST_COMPARE  -- MAXIMUM COMPARE AND WRITE LENGTH
    ∷ []
    ++ bytes_of 2 0  -- OPTIMAL TRANSFER LENGTH GRANULARITY: not told
    ++ bytes_of 4 MOST_TRANSFER  -- MAXIMUM TRANSFER LENGTH, bytes 8 to 11
    ++ bytes_of 4 0  -- OPTIMAL TRANSFER LENGTH: not told
    ++ bytes_of 4 0  -- MAXIMUM PREFETCH LENGTH: not told
    ++ bytes_of 4 MOST_BLOCKS  -- MAXIMUM UNMAP LBA COUNT, bytes 20 to 23
    ++ bytes_of 4 MOST_RANGES  -- MAXIMUM UNMAP BLOCK DESCRIPTOR COUNT, bytes 24 to 27
    ++ bytes_of 4 0  -- OPTIMAL UNMAP GRANULARITY: not told
    ++ bytes_of 4 0  -- UGAVALID, UNMAP GRANULARITY ALIGNMENT: not told
    ++ bytes_of 8 MOST_TRANSFER  -- MAXIMUM WRITE SAME LENGTH, bytes 36 to 43
    ++ replicate 20 0)  -- reserved

-- Logical Block Provisioning (SBC-3, 6.6)
unfoldable pub provisioning_page : List ℕ
provisioning_page = vpd 0xb2 (
    0x00  -- THRESHOLD EXPONENT: no thresholds
    ∷ 0xc4  -- LBPU: UNMAP; LBPWS: WRITE SAME (16); LBPRZ: unmapped blocks read as zeros
    ∷ 0x02  -- PROVISIONING TYPE 2h: thin
    ∷ 0x00
    ∷ [])

-- what a page holds for a logical unit, by its number
abbrev pub data_of_page : InquiryPage → ℕ → List ℕ
data_of_page page.Standard lun = standard_inquiry
data_of_page page.SupportedPages lun = supported_pages
data_of_page page.UnitSerialNumber lun = serial_page lun
data_of_page page.DeviceIdentification lun = identification_page lun
data_of_page page.BlockLimits lun = limits_page
data_of_page page.LogicalBlockProvisioning lun = provisioning_page

-- the data-in of INQUIRY
unfoldable pub inquiry_data : InquiryPage → ℕ → ℕ → List ℕ
inquiry_data page allocation lun = cut allocation (data_of_page page lun)
