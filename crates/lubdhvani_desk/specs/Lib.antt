pub mod Reworking
