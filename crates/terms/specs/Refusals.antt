-- What stands for each refusal, and for a store's causes: numbers, layers, and what a refusal points at.
-- Assumes nothing.
use Rattle.std.specs.Prelude.{ℕ, List, ◌++◌, Some, None, Option, codes, decimal}
use Rattle.terms.specs.declared.cause.Cause.{Cause}
use Rattle.terms.specs.declared.cause.Cause.TheVariants as cause
use Rattle.terms.specs.declared.layer.Layer.{Layer}
use Rattle.terms.specs.declared.layer.Layer.TheVariants as layer
use Rattle.terms.specs.declared.refusal.Refusal.{Refusal}
use Rattle.terms.specs.declared.refusal.Refusal.TheVariants.{BlockLength, NoSuchBlock, FileFull, BufferShort, PenOut, WrongPen, PartTooLong, Get, Put, RootDiffers, NoRoom, LogForm, SealForm, SealPastSpan, SlipForm, OtherSeal, SlipRoot}
use Rattle.terms.specs.declared.site.Site.{Site}
use Rattle.terms.specs.declared.site.Site.TheVariants.{Record, Block, Byte}

-- a store's cause, as a number
abbrev pub cause_number : Cause → ℕ
cause_number cause.Nothing = 1
cause_number cause.Outside = 2
cause_number cause.Length = 3
cause_number cause.Full = 4
cause_number cause.Other = 9

-- a refusal's number
abbrev pub number_of : Refusal → ℕ
number_of BlockLength = 1
number_of NoSuchBlock = 2
number_of FileFull = 3
number_of BufferShort = 4
number_of PenOut = 5
number_of WrongPen = 6
number_of PartTooLong = 7
number_of (Get p c) = 10
number_of (Put p c) = 11
number_of (RootDiffers i) = 12
number_of NoRoom = 13
number_of (LogForm at) = 14
number_of SealForm = 20
number_of SealPastSpan = 21
number_of (SlipForm at) = 30
number_of OtherSeal = 31
number_of SlipRoot = 32

-- the layer that refuses
abbrev pub layer_of : Refusal → Layer
layer_of BlockLength = layer.Vault
layer_of NoSuchBlock = layer.Vault
layer_of FileFull = layer.Vault
layer_of BufferShort = layer.Vault
layer_of PenOut = layer.Vault
layer_of WrongPen = layer.Vault
layer_of PartTooLong = layer.Hash
layer_of (Get p c) = layer.Store
layer_of (Put p c) = layer.Store
layer_of (RootDiffers i) = layer.Tree
layer_of NoRoom = layer.Store
layer_of (LogForm at) = layer.Store
layer_of SealForm = layer.Seal
layer_of SealPastSpan = layer.Seal
layer_of (SlipForm at) = layer.Slip
layer_of OtherSeal = layer.Slip
layer_of SlipRoot = layer.Slip

-- a layer's name
abbrev pub layer_name : Layer → List ℕ
layer_name layer.Vault = codes "vault"
layer_name layer.Hash = codes "hash"
layer_name layer.Store = codes "store"
layer_name layer.Tree = codes "tree"
layer_name layer.Seal = codes "seal"
layer_name layer.Slip = codes "slip"

-- what a refusal points at, if anything
abbrev pub site_of : Refusal → Option Site
site_of BlockLength = None
site_of NoSuchBlock = None
site_of FileFull = None
site_of BufferShort = None
site_of PenOut = None
site_of WrongPen = None
site_of PartTooLong = None
site_of (Get p c) = Some (Record p)
site_of (Put p c) = Some (Record p)
site_of (RootDiffers i) = Some (Block i)
site_of NoRoom = None
site_of (LogForm at) = Some (Byte at)
site_of SealForm = None
site_of SealPastSpan = None
site_of (SlipForm at) = Some (Byte at)
site_of OtherSeal = None
site_of SlipRoot = None

-- the byte that is pointed at, or 0
abbrev pub offset_of : Site → ℕ
offset_of (Record p) = 0
offset_of (Block i) = 0
offset_of (Byte at) = at

-- the byte that a refusal points at, or 0
abbrev pub offset_at : Refusal → ℕ
offset_at r = elim (site_of r) [ None ↦ 0 | Some s ↦ offset_of s ]

-- the line that a refusal prints
abbrev pub refusal_line : Refusal → List ℕ
refusal_line r = codes "refused " ++ (decimal (number_of r) ++ (codes " at " ++ decimal (offset_at r)))
