mod Images
mod Sectors
