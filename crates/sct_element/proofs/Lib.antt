-- The files of lemmas of this crate.
mod AmountTexts
mod Amounts
mod Decimals
mod Remainders
mod Shortcuts
