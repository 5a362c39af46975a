-- What a 32-bit build of netcdf3 0.6.1 makes of a file, as definitions written from its source.
pub mod Guest
