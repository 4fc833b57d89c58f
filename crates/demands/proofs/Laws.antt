-- What the demands follow from, beside the laws of the record.
-- chain-runs, new-runs, reached-stored, reached-sound, open-sound
pub mod Chains
-- accepted-open, opens-saved, save-fits, save-short, accepted-save
pub mod Files
-- answered-listing
pub mod Listings
